use Rattle.std.proofs.Common.{◌<◌, ℕ}
use Rattle.std.specs.Prelude.{slice_get, IfSome}
use Rattle.omi_model.specs.declared.id.Tid.{Tid}
use Rattle.omi_model.specs.Fresh.{IsFresh}
use Rattle.omi_machine.specs.Kept.{state_of}
use Rattle.omi_machine_legal.proofs.fork_rules.are_members_fresh.Given as goal

abbrev pub invariant-loop-at : goal.invariant-loop-at
invariant-loop-at l =
    (k : ℕ) → k < l.at → IfSome (slice_get l.team k) (λ (m : Tid × ℕ). IsFresh (state_of l.s).tasks l.i m.0.0)
