-- Whatever word is taken for a code, the layout has the record of the task that it names.
use Rattle.std.proofs.Common.{◌≡◌, ◌<◌, ◌%◌, ◌^◌, nat_lt, ℕ, Bool, true, false, List, refl, ltb-true, if◌then◌else◌}
use Rattle.std.proofs.lemmas.Nat.{mod_below}
use Rattle.omi_layout.specs.Field.{tasks}
use Rattle.omi_layout.specs.Place.{IsSlot}
use Rattle.omi_layout.specs.Table.{makers, per_thread}
use Rattle.omi_layout.specs.Valid.{IsValid}
use Rattle.omi_layout.proofs.Arenas.{some_tasks, some_threads}
use Rattle.omi_pc.specs.declared.place.Place.{Place}
use Rattle.omi_step_words.specs.Placed.{HasTask}
use Rattle.omi_step_words.specs.Words.{initial_place, slot_by}
use Rattle.omi_task.specs.Slots.{coded_task}

pub coded_there : (w : List ℕ) → IsValid w → (code : ℕ) → HasTask w (coded_task w code)
coded_there w valid code =
    go (slot_by w tasks (code % 2 ^ 24)) (mod_below (code % 2 ^ 24) (per_thread w tasks) (some_tasks w valid))
    (nat_lt (slot_by w tasks (code % 2 ^ 24)).creator (makers w tasks)) refl
  where
    go : (x : Place) → x.slot < per_thread w tasks → (b : Bool) → nat_lt x.creator (makers w tasks) ≡ b
        → IsSlot w tasks (if b then x else initial_place).creator (if b then x else initial_place).slot
    go x below true made = record { made_by = ltb-true x.creator (makers w tasks) made; within = below }
    go x below false made = record { made_by = some_threads w valid; within = some_tasks w valid }
