use Rattle.std.proofs.Common.{[], ◌∷◌, length, ap, sym, ◌∙◌}
use Rattle.std.proofs.lemmas.Result.{err_from_is_err_and}
use Rattle.omi_elf.specs.Table.{header_rows, program_headers_row}
use Rattle.omi_process.specs.Outcomes.{process_error_of}
use Rattle.omi_process.specs.Table.{front, headers, ids, many_headers, overlap, whole_notes}
use Rattle.omi_process.specs.declared.fault.ProcessError.TheVariants.{Fault}
use Rattle.omi_process.specs.declared.fault.ProcessFault.TheVariants.{ManyHeaders}
use Rattle.omi_process.specs.declared.limits.TheConstants.{MANY_HEADERS_PLACE, MOST_BYTES}
use Rattle.omi_process.proofs.Rows.{elf_passes, elf_tells, first_tells, next_judges, next_tells, not_many, too_many}
use Rattle.omi_process.proofs.contents.read_process.Goals as goal

pub returns-in_err-header-clause-rows : goal.returns-in_err-header-clause-rows
returns-in_err-header-clause-rows g c = λ bytes told.
    let p = err_from_is_err_and c.from_residual.result c.from_residual.ensures.1 in
    rw (p.1, p.2)
    (first_tells (process_error_of c.in_err-header.field-0.0) (front bytes) (many_headers bytes ∷ headers bytes ∷ whole_notes bytes ∷ overlap bytes ∷ ids bytes ∷ [])
    (elf_tells c.in_err-header.field-0.0 (header_rows MOST_BYTES bytes (length bytes)) (c.in_err-header.ensures.rows bytes told)))

pub returns-then-header-clause-rows : goal.returns-then-header-clause-rows
returns-then-header-clause-rows g c = λ bytes told.
    let says = c.in_ok-header.ensures.says bytes told in
    next_tells (Fault MANY_HEADERS_PLACE ManyHeaders) (front bytes) (many_headers bytes ∷ headers bytes ∷ whole_notes bytes ∷ overlap bytes ∷ ids bytes ∷ [])
    (elf_passes (header_rows MOST_BYTES bytes (length bytes)) (c.in_ok-header.ensures.rows bytes told))
    (first_tells (Fault MANY_HEADERS_PLACE ManyHeaders) (many_headers bytes) (headers bytes ∷ whole_notes bytes ∷ overlap bytes ∷ ids bytes ∷ [])
    (too_many bytes (sym says.count ∙ c.if-header.true)))

pub returns-in_err-headers-clause-rows : goal.returns-in_err-headers-clause-rows
returns-in_err-headers-clause-rows g c = λ bytes told.
    let says = c.in_ok-header.ensures.says bytes told in
    let then = ap (λ t. t c.args.name.now) c.read_header.ensures.same ∙ told in
    let e = process_error_of c.in_err-headers.field-0.0 in
    let p = err_from_is_err_and c.from_residual-in_err-headers.result c.from_residual-in_err-headers.ensures.1 in
    rw (p.1, p.2)
    (next_tells e (front bytes) (many_headers bytes ∷ headers bytes ∷ whole_notes bytes ∷ overlap bytes ∷ ids bytes ∷ [])
    (elf_passes (header_rows MOST_BYTES bytes (length bytes)) (c.in_ok-header.ensures.rows bytes told))
    (next_tells e (many_headers bytes) (headers bytes ∷ whole_notes bytes ∷ overlap bytes ∷ ids bytes ∷ [])
    (not_many bytes (λ many. c.if-header.false (says.count ∙ many)))
    (first_tells e (headers bytes) (whole_notes bytes ∷ overlap bytes ∷ ids bytes ∷ [])
    (elf_tells c.in_err-headers.field-0.0 (program_headers_row bytes) (c.in_err-headers.ensures.row bytes then says)))))

pub returns-clause-rows : goal.returns-clause-rows
returns-clause-rows g c = λ bytes told.
    let says = c.in_ok-header.ensures.says bytes told in
    let then = ap (λ t. t c.args.name.now) c.read_header.ensures.same ∙ told in
    let at_contents = ap (λ t. t c.args.name.now) (c.read_headers.ensures.same ∙ c.read_header.ensures.same) ∙ told in
    next_judges c.contents.result (front bytes) (many_headers bytes ∷ headers bytes ∷ whole_notes bytes ∷ overlap bytes ∷ ids bytes ∷ [])
    (elf_passes (header_rows MOST_BYTES bytes (length bytes)) (c.in_ok-header.ensures.rows bytes told))
    (next_judges c.contents.result (many_headers bytes) (headers bytes ∷ whole_notes bytes ∷ overlap bytes ∷ ids bytes ∷ [])
    (not_many bytes (λ many. c.if-header.false (says.count ∙ many)))
    (next_judges c.contents.result (headers bytes) (whole_notes bytes ∷ overlap bytes ∷ ids bytes ∷ [])
    (elf_passes (program_headers_row bytes) (c.in_ok-headers.ensures.row bytes then says))
    (c.contents.ensures.rows bytes at_contents)))
