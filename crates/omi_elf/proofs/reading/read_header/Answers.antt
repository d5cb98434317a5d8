use Rattle.std.proofs.Common.{Some, sym, ◌∙◌, arith}
use Rattle.std.proofs.lemmas.Result.{err_from_is_err_and}
use Rattle.omi_elf.proofs.Front.{front_of, rows_of_front, header_of_front}
use Rattle.omi_elf.proofs.SegmentRows.{read_along}
use Rattle.omi_elf.proofs.reading.read_header.Goals as goal

pub returns-in_err-header-clause-rows : goal.returns-in_err-header-clause-rows
returns-in_err-header-clause-rows g c = λ bytes told.
    let long = c.requires.len (Some bytes) told in
    let front = front_of 64 bytes _ c.in_ok-count.count (omega (arith, c.in_ok-count.ensures.count, long)) (c.in_ok-count.ensures.bytes bytes told) in
    let p = err_from_is_err_and c.from_residual-in_err-header.result c.from_residual-in_err-header.ensures.1 in
    rw (p.1, p.2) (read_along c.in_err-header.field-0.0 _ _ (rows_of_front bytes _ c.args.most c.args.len (sym long) front) c.in_err-header.ensures.rows)

pub returns-clause-rows : goal.returns-clause-rows
returns-clause-rows g c = λ bytes told.
    let long = c.requires.len (Some bytes) told in
    let front = front_of 64 bytes _ c.in_ok-count.count (omega (arith, c.in_ok-count.ensures.count, long)) (c.in_ok-count.ensures.bytes bytes told) in
    sym (rows_of_front bytes _ c.args.most c.args.len (sym long) front) ∙ c.in_ok-header.ensures.rows

pub returns-clause-says : goal.returns-clause-says
returns-clause-says g c = λ bytes told.
    let long = c.requires.len (Some bytes) told in
    let front = front_of 64 bytes _ c.in_ok-count.count (omega (arith, c.in_ok-count.ensures.count, long)) (c.in_ok-count.ensures.bytes bytes told) in
    header_of_front bytes _ c.in_ok-header.header front c.in_ok-header.ensures.order c.in_ok-header.ensures.phoff c.in_ok-header.ensures.phnum
