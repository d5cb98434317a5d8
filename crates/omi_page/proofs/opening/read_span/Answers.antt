use Rattle.std.proofs.Common.{Some, ◌+◌, ◌≡◌, arith, length-take}
use Rattle.std.proofs.lemmas.Result.{err_from_is_err_and}
use Rattle.omi_page.specs.Bounds.{bounds_at}
use Rattle.omi_page.proofs.FrontsOfFiles.{front_value, front_fault, local_bounds}
use Rattle.omi_page.proofs.Segments.{segment_whole, segment_short, segment_fault}
use Rattle.omi_page.proofs.opening.read_span.Goals as goal

pub returns-in_err-start-clause-read : goal.returns-in_err-start-clause-read
returns-in_err-start-clause-read g c = λ bytes told.
    let p = err_from_is_err_and c.from_residual-in_err-start.result c.from_residual-in_err-start.ensures.1 in
    rw (p.1, p.2) (segment_fault _ c.args.len c.args.order (c.args.least, c.args.room) _ (front_fault 16 (λ len. bounds_at len (c.args.least, c.args.room)) _ (local_bounds (c.args.least, c.args.room)) bytes c.front.new.to c.args.len c.args.at c.in_ok-read.read (c.args.at + c.in_ok-read.read) c.in_err-start.field-0.0
    (record { length_is = c.requires.len (Some bytes) told; within = c.requires.within; counted = omega (arith, c.in_ok-read.ensures.count); ends = omega arith; is = c.in_ok-read.ensures.bytes bytes told })
    c.in_err-start.ensures.read))

pub returns-then-count-len-clause-read : goal.returns-then-count-len-clause-read
returns-then-count-len-clause-read g c = λ bytes told.
    let long = c.requires.len (Some bytes) told in
    let all : c.in_ok-read.read ≡ 16 =
    omega
    (arith, c.in_ok-start.ensures.long, c.in_ok-read.ensures.count, length-take c.in_ok-read.read c.front.new.to) in
    rw (c.into.ensures, c.short.ensures)
    (segment_short c.args.len c.args.order (c.args.least, c.args.room) bytes c.args.at c.in_ok-start.start c.in_ok-start.count (omega (arith, long, c.in_ok-read.ensures.count)) (omega (arith, long, c.in_ok-read.ensures.count, c.if-count-len.true))
    (front_value 16 (λ len. bounds_at len (c.args.least, c.args.room)) _ (local_bounds (c.args.least, c.args.room)) bytes c.front.new.to _ c.args.len c.args.at c.in_ok-read.read (c.args.at + c.in_ok-read.read) _
    (record { length_is = long; within = c.requires.within; counted = omega (arith, c.in_ok-read.ensures.count); ends = omega arith; is = c.in_ok-read.ensures.bytes bytes told })
    c.in_ok-start.ensures.read))

pub returns-clause-read : goal.returns-clause-read
returns-clause-read g c = λ bytes told.
    let long = c.requires.len (Some bytes) told in
    let all : c.in_ok-read.read ≡ 16 =
    omega
    (arith, c.in_ok-start.ensures.long, c.in_ok-read.ensures.count, length-take c.in_ok-read.read c.front.new.to) in
    segment_whole c.args.len c.args.order (c.args.least, c.args.room) bytes c.args.at
    (c.args.at + c.in_ok-read.read) c.in_ok-start.start c.in_ok-start.count (omega arith)
    (omega (arith, long, c.in_ok-read.ensures.count))
    (front_value 16 (λ len. bounds_at len (c.args.least, c.args.room)) _ (local_bounds (c.args.least, c.args.room)) bytes c.front.new.to _ c.args.len c.args.at c.in_ok-read.read (c.args.at + c.in_ok-read.read) _
    (record { length_is = long; within = c.requires.within; counted = omega (arith, c.in_ok-read.ensures.count); ends = omega arith; is = c.in_ok-read.ensures.bytes bytes told })
    c.in_ok-start.ensures.read)
