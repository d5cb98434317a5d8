use Rattle.std.proofs.Common.{◌∙◌}
use Rattle.std.proofs.lemmas.Result.{err_from_is_err_and}
use Rattle.omi_frame.proofs.Scripts.{all_accepted, all_refused, unread, unread_kind}
use Rattle.omi_frame.proofs.script.program_of.Goals as goal

pub returns-in_err-bytes-clause-refused : goal.returns-in_err-bytes-clause-refused
returns-in_err-bytes-clause-refused g c = λ content told.
    let p = err_from_is_err_and c.from_residual.result c.from_residual.ensures.1 in
    rw (p.1, p.2) (unread content c.in_err-bytes.field-0.0 (c.in_err-bytes.ensures.no_file content told))

pub returns-in_err-bytes-clause-kind : goal.returns-in_err-bytes-clause-kind
returns-in_err-bytes-clause-kind g c =
    let p = err_from_is_err_and c.from_residual.result c.from_residual.ensures.1 in
    rw (p.1, p.2) (unread_kind c.in_err-bytes.field-0.0 c.in_err-bytes.ensures.kind)

pub returns-clause-program : goal.returns-clause-program
returns-clause-program g c = λ content told.
    let read = c.in_ok-bytes.ensures.bytes content told in
    all_accepted content c.deref.result.now read.0 read.1
    (c.deref.ensures.value ∙ read.2) c.parsed.result c.parsed.ensures.accepted

pub returns-clause-refused : goal.returns-clause-refused
returns-clause-refused g c = λ content told.
    let read = c.in_ok-bytes.ensures.bytes content told in
    all_refused content c.deref.result.now read.0 read.1
    (c.deref.ensures.value ∙ read.2) c.parsed.result c.parsed.ensures.refused
