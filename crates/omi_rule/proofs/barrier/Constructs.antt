-- A thread that works again in a construct goes back to the construct's end.
use Rattle.std.proofs.Common.{◌≡◌, ℕ, zero, suc, List, ◌∷◌, Some, refl, sym, ap, ◌∙◌, subst}
use Rattle.omi_script.specs.declared.program.Program.{Program}
use Rattle.omi_script.specs.declared.statement.Stmt.{Stmt}
use Rattle.omi_model.specs.declared.encounter.Encounter.{Encounter}
use Rattle.omi_pc.specs.declared.actor.Actor.{Actor}
use Rattle.omi_pc.specs.declared.counter.Counter.TheVariants as counter
use Rattle.omi_pc.specs.declared.counter.PlainCounter.TheVariants as plain
use Rattle.omi_pc.specs.declared.frame.Frame.{Frame}
use Rattle.omi_pc.specs.Frames.{body_in, statement_before}
use Rattle.omi_pc.specs.Moves.{worked, worked_at, worked_in}
use Rattle.omi_pc.specs.OpenBodies.{IsAt}
use Rattle.omi_rule.specs.Ahead.{leaving}
use Rattle.omi_rule.specs.Ahead as Ahead
use Rattle.omi_rule.proofs.barrier.AtCounter.{at_counter}

pub at_construct : (p : Program) (a : Actor) (f : Frame) (fs : List Frame) (x : Stmt) → a.stack ≡ f ∷ fs
    → IsAt p a.stack x
    → (worked p a ≡ at_counter (counter.Plain plain.Leave) a) × ((e : Encounter) → Ahead.worked p e a.stack ≡ leaving p e a.stack)
at_construct p a f fs x is there = by f.next refl (subst (λ (xs : List Frame). IsAt p xs x) is there)
  where
    by : (n : ℕ) → f.next ≡ n → statement_before (body_in p f) f.next ≡ Some x
        → (worked p a ≡ at_counter (counter.Plain plain.Leave) a) × ((e : Encounter) → Ahead.worked p e a.stack ≡ leaving p e a.stack)
    by zero e some = absurd (cc (subst (λ n. statement_before (body_in p f) n ≡ Some x) e some))
    by (suc n) e some = (
      ap (λ (xs : List Frame). worked_in p xs a) is ∙ ap (λ k. worked_at p k a) e,
      λ at. ap (λ (xs : List Frame). Ahead.worked p at xs) is ∙ ap (λ k. Ahead.working_at p at k (f ∷ fs)) e ∙ ap (leaving p at) (sym is),
    )
