-- The tasks of a stack run their functions: what moves between the bodies of a task, and what stays over every event.
use Rattle.std.proofs.Common.{◌≡◌, ℕ, List, [], ◌∷◌, refl, sym, ◌∙◌, subst}
use Rattle.omi_script.specs.declared.program.Program.{Program}
use Rattle.omi_model.specs.LawStays.{Stays}
use Rattle.omi_model.specs.State.{State}
use Rattle.omi_pc.specs.declared.actor.Actor.{Actor}
use Rattle.omi_pc.specs.declared.context.Context.{Context}
use Rattle.omi_pc.specs.declared.frame.Frame.{Frame}
use Rattle.omi_pc.specs.Moves.{context_under}
use Rattle.omi_rule.specs.Chains.{KeepsBodies, RunsFunctions, Stands, StandsWith}
use Rattle.omi_rule.proofs.BodyMoves.{IsOfBodies}
use Rattle.omi_rule.proofs.OwnTask.{called_under}

-- a body that a statement opened begins no task
pub runs_are_of_bodies : (s : State) → IsOfBodies (RunsFunctions s)
runs_are_of_bodies s = record {
  advances = λ c f fs o. o;
  calls = λ c g x f fs called o. (λ opens. absurd (cc (sym called, opens)), subst (λ (d : Context). RunsFunctions s d (f ∷ fs)) (sym (called_under c x called)) o);
  returns = λ c f fs called o. subst (λ (d : Context). RunsFunctions s d fs) (called_under c f.opened called) o.1;
  again = λ c f left fs called o. (λ opens. absurd (cc opens), subst (λ (d : Context). RunsFunctions s d fs) (called_under c f.opened called) o.1);
}

module _ (p : Program) (s u : State) (i : ℕ) (stays : Stays s u) where
  -- of tasks that were live
  pub bodies_run : (c : Context) (fs : List Frame) → KeepsBodies p s i c fs → RunsFunctions s c fs
      → RunsFunctions u c fs
  bodies_run c [] o runs = tt
  bodies_run c (f ∷ fs) (o, body, rest) (here, under) = (
    λ opens t live. (stays.alike c.task o.task t o.live live).function ∙ here opens o.task o.live,
    bodies_run (context_under c f.opened) fs rest under,
  )

  pub stack_runs : (a : Actor) → Stands p s i a → RunsFunctions s a.context a.stack
      → RunsFunctions u a.context a.stack
  stack_runs a stands runs = go a.stack refl stands
    where
      go : (fs : List Frame) → a.stack ≡ fs → StandsWith p s i a fs → RunsFunctions u a.context a.stack
      go [] is o = subst (RunsFunctions u a.context) (sym is) tt
      go (f ∷ fs) is o = bodies_run a.context a.stack o.bodies runs
