use Rattle.std.proofs.Common.{◌≡◌, ◌<◌, ℕ}
use Rattle.std.specs.Prelude.{IfSome, slice_get}
use Rattle.omi_model.specs.declared.id.Tid.{Tid}
use Rattle.omi_machine.specs.Kept.{slots_of}
use Rattle.omi_machine.specs.KeptSlots.{IsKept}
use Rattle.omi_machine.proofs.new_teams.keep_team.Given as goal

-- the slots mean what they meant, and those of the members so far are kept
abbrev pub invariant-loop-at : goal.invariant-loop-at
invariant-loop-at l = record {
  same : slots_of l.slots ≡ slots_of l.fn.slots;
  kept : (k : ℕ) → k < l.at → IfSome (slice_get l.team k) (λ (m : Tid × ℕ). IsKept l.slots m.0.0);
}
