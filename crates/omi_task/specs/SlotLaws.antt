-- The law of codes: the code of a task tells the task.
use Rattle.std.specs.Prelude.{◌≡◌, ◌^◌, ◌<◌, List, ℕ}
use Rattle.omi_rep.specs.Records.{slot_word}
use Rattle.omi_model.specs.declared.id.Tid.{Tid}
use Rattle.omi_layout.specs.Valid.{IsValid}
use Rattle.omi_step_words.specs.Placed.{HasTask}
use Rattle.omi_task.specs.Slots.{coded_task}

-- so no two tasks have the same code
abbrev pub CodesAreReadBack : Type 0
CodesAreReadBack =
    (w : List ℕ) (k : Tid) → IsValid w → HasTask w k → k.0.generation < 2 ^ 32
    → coded_task w (slot_word w k) ≡ k

-- and none has that of an empty slot
abbrev pub CodesAreNotZero : Type 0
CodesAreNotZero = (w : List ℕ) (k : Tid) → 0 < slot_word w k
