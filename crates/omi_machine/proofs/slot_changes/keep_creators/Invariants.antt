use Rattle.std.proofs.Common.{◌≡◌, length}
use Rattle.omi_model.specs.declared.id.Id.{Id}
use Rattle.omi_machine.specs.Kept.{slots_of}
use Rattle.omi_machine.specs.KeptSlots.{IsKept}
use Rattle.omi_machine.proofs.slot_changes.keep_creators.Given as goal

-- the slots mean what they meant
abbrev pub invariant-loop : goal.invariant-loop
invariant-loop g l = record {
  same : slots_of l.slots ≡ slots_of l.fn.slots;
  keeps : (n : Id) → IsKept l.fn.slots n → IsKept l.slots n;
  count : length l.slots ≡ l.counter;
}
