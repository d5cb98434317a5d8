-- What the plain program keeps of a state, which is finite, and the state that it means: a thread past the last one is a worker that has not begun, a slot past the last one has had no object, and a lock past the last one is free.
use Rattle.std.specs.Prelude.{List, length, slice_get, unwrap_or, None}
use Rattle.std.specs.Option.{option_and_then}
use Rattle.omi_model.specs.declared.slot.Slot.{Slot}
use Rattle.omi_machine.specs.declared.state.State.{State as Kept}
use Rattle.omi_model.specs.Opening.{waiting_worker}
use Rattle.omi_model.specs.Put.{Slots, unused}
use Rattle.omi_model.specs.State.{State}

-- the slots of all creators, each creator's in a list
abbrev pub slots_of : {A : Type 0} → List (List (Slot A)) → Slots A
slots_of kept =
    λ c k. unwrap_or (option_and_then (λ slots. slice_get slots k) (slice_get kept c)) unused

-- the state of what is kept
abbrev pub state_of : Kept → State
state_of kept = record {
  environment = kept.environment;
  count = length kept.threads;
  max_active = kept.max_active;
  locks = λ k. unwrap_or (slice_get kept.locks k) None;
  threads = λ i. unwrap_or (slice_get kept.threads i) waiting_worker;
  regions = slots_of kept.regions;
  tasks = slots_of kept.tasks;
}
