use Rattle.std.proofs.Common.{◌∙◌}
use Rattle.std.proofs.lemmas.Result.{err_from_is_err_and}
use Rattle.omi_top.proofs.Copying.{core_held, core_refused, fault_kind, fault_not_read, unread, unread_kind}
use Rattle.omi_top.proofs.copy.core_in.Goals as goal

-- ---- the file can't be read

pub returns-in_err-bytes-clause-refused : goal.returns-in_err-bytes-clause-refused
returns-in_err-bytes-clause-refused g c = λ content told.
    let p = err_from_is_err_and c.from_residual.result c.from_residual.ensures.1 in
    rw (p.1, p.2) (unread content c.in_err-bytes.field-0.0 (c.in_err-bytes.ensures.no_file content told))

pub returns-in_err-bytes-clause-kind : goal.returns-in_err-bytes-clause-kind
returns-in_err-bytes-clause-kind g c =
    let p = err_from_is_err_and c.from_residual.result c.from_residual.ensures.1 in
    rw (p.1, p.2) (unread_kind c.in_err-bytes.field-0.0 c.in_err-bytes.ensures.kind)

-- ---- it is no core

pub returns-in_err-core-clause-refused : goal.returns-in_err-core-clause-refused
returns-in_err-core-clause-refused g c = λ content told.
    let read = c.in_ok-bytes.ensures.bytes content told in
    let p = err_from_is_err_and c.from_residual-in_err-core.result c.from_residual-in_err-core.ensures.1 in
    rw (p.1, p.2)
    (core_refused content c.deref.result.now read.0 read.1 (c.deref.ensures.value ∙ read.2) c.in_err-core.field-0.0 c.in_err-core.ensures.fault)

pub returns-in_err-core-clause-kind : goal.returns-in_err-core-clause-kind
returns-in_err-core-clause-kind g c =
    let p = err_from_is_err_and c.from_residual-in_err-core.result c.from_residual-in_err-core.ensures.1 in
    rw (p.1, p.2) (fault_kind c.in_err-core.field-0.0)

pub returns-in_err-core-clause-cause : goal.returns-in_err-core-clause-cause
returns-in_err-core-clause-cause g c =
    let p = err_from_is_err_and c.from_residual-in_err-core.result c.from_residual-in_err-core.ensures.1 in
    rw (p.1, p.2)
    (record { later = c.in_ok-bytes.ensures.cause.later; failed = λ is. absurd (fault_not_read c.in_err-core.field-0.0 is) })

-- ---- it is one

pub returns-clause-core : goal.returns-clause-core
returns-clause-core g c = λ content told.
    let read = c.in_ok-bytes.ensures.bytes content told in
    core_held content c.deref.result.now read.0 read.1 (c.deref.ensures.value ∙ read.2) c.in_ok-core.core c.in_ok-core.ensures.core
