use Rattle.std.proofs.Common.{sym, subst}
use Rattle.std.specs.Prelude.{Result, Ok, Err, IfOk}
use Rattle.omi_process.specs.Contexts.{has, AreThose}
use Rattle.omi_process.proofs.EachOnce.{once_are}
use Rattle.omi_process.proofs.contexts.each_once.Goals as goal

-- what follows from the value of a result holds of it
of_ok : {A E : Type 0} {P Q : A → Type 0} (r : Result A E) → IfOk r P → ((x : A) → P x → Q x) → IfOk r Q
of_ok (Ok x) p then = then x p
of_ok (Err e) p then = tt

pub returns : goal.returns
returns c =
    of_ok c.in_order.result c.in_order.ensures.all (λ once same.
    subst (AreThose (has c.args.ids.now)) (sym same)
    (once_are c.args.ids.now c.loop-id.set.keys c.loop-id.id-index c.loop-id-test.false c.in_order.ensures.rise c.loop-id.invariant))
