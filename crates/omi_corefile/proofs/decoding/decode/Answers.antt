use Rattle.std.proofs.Common.{Ok, ap, arith}
use Rattle.std.proofs.lemmas.Result.{err_from_is_err_and}
use Rattle.omi_corefile.specs.declared.core_image.CoreImage.{CoreImage}
use Rattle.omi_corefile.proofs.FileLaws.{reading_taken, error_at_core, core_read}
use Rattle.omi_corefile.proofs.decoding.decode.Goals as goal

pub returns-in_err-order-clause-accepts : goal.returns-in_err-order-clause-accepts
returns-in_err-order-clause-accepts c = λ core is_core.
    let p = err_from_is_err_and c.from_residual.result c.from_residual.ensures.1 in
    rw (p.1, p.2)
    (error_at_core c.in_err-order.field-0.0 c.args.bytes.now core _ c.in_err-order.ensures is_core)

pub invariant_of-result : goal.invariant_of-result
invariant_of-result c = record { limits = (reading_taken c.args.bytes.now _ (λ k. omega (arith, c.type_inv.bytes k)) c.in_ok-order.ensures).0 }

pub returns-clause-core : goal.returns-clause-core
returns-clause-core c =
    (reading_taken c.args.bytes.now _ (λ k. omega (arith, c.type_inv.bytes k)) c.in_ok-order.ensures).1

pub returns-clause-accepts : goal.returns-clause-accepts
returns-clause-accepts c =
    λ core is_core. ap (λ (x : CoreImage). Ok x) (core_read c.args.bytes.now core _ _ is_core c.in_ok-order.ensures)
