use Rattle.std.proofs.Common.{Some, arith, length-take}
use Rattle.std.proofs.lemmas.Result.{err_from_is_err_and}
use Rattle.omi_corefile.specs.Refusals.{header_at}
use Rattle.omi_page.proofs.FrontsOfFiles.{front_value, front_fault, local_header}
use Rattle.omi_page.proofs.Taking.{header_took}
use Rattle.omi_page.proofs.opening.read_header.Goals as goal

pub returns-in_err-counts-clause-read : goal.returns-in_err-counts-clause-read
returns-in_err-counts-clause-read g c = λ bytes told.
    let p = err_from_is_err_and c.from_residual-in_err-counts.result c.from_residual-in_err-counts.ensures.1 in
    rw (p.1, p.2) (front_fault 16 header_at _ local_header bytes c.front.new.to c.args.len 0 c.in_ok-count.count c.in_ok-count.count c.in_err-counts.field-0.0
    (record { length_is = c.requires.len (Some bytes) told; within = omega arith; counted = omega (arith, c.in_ok-count.ensures.count); ends = omega arith; is = c.in_ok-count.ensures.bytes bytes told })
    c.in_err-counts.ensures)

pub returns-clause-read : goal.returns-clause-read
returns-clause-read g c = λ bytes told.
    front_value 16 header_at _ local_header bytes c.front.new.to _ c.args.len 0 c.in_ok-count.count c.in_ok-count.count _
    (record { length_is = c.requires.len (Some bytes) told; within = omega arith; counted = omega (arith, c.in_ok-count.ensures.count); ends = omega arith; is = c.in_ok-count.ensures.bytes bytes told })
    c.in_ok-counts.ensures

pub returns-clause-long : goal.returns-clause-long
returns-clause-long g c = let took = header_took c.in_ok-count.count _ _ c.in_ok-counts.ensures in
    omega (arith, took.took.long, c.in_ok-count.ensures.count, length-take c.in_ok-count.count c.front.new.to)

pub returns-clause-few : goal.returns-clause-few
returns-clause-few g c = (header_took c.in_ok-count.count _ _ c.in_ok-counts.ensures).few_contexts

pub returns-clause-segments : goal.returns-clause-segments
returns-clause-segments g c = (header_took c.in_ok-count.count _ _ c.in_ok-counts.ensures).few_segments

pub returns-clause-order : goal.returns-clause-order
returns-clause-order g c = (header_took c.in_ok-count.count _ _ c.in_ok-counts.ensures).order_is
