-- The words of slots: the task that the code of a deferred task names.
use Rattle.std.specs.Prelude.{ℕ, ◌/◌, ◌%◌, nat_lt, List, if◌then◌else◌}
use Rattle.omi_numbers.specs.declared.lives.TheConstants.{CODED_RECORDS}
use Rattle.omi_model.specs.declared.id.Tid.{Tid}
use Rattle.omi_layout.specs.Field.{tasks}
use Rattle.omi_layout.specs.Table.{makers}
use Rattle.omi_pc.specs.declared.place.Place.{Place}
use Rattle.omi_step_words.specs.Words.{initial_place, object_in, slot_by}

-- the slot of the record that a code names. The first one stands where the layout has no such record, which no code names
abbrev pub coded_place : List ℕ → ℕ → Place
coded_place w code =
    let at = slot_by w tasks (code % CODED_RECORDS) in
    if nat_lt at.creator (makers w tasks) then at else initial_place

-- the task that a code names
abbrev pub coded_task : List ℕ → ℕ → Tid
coded_task w code = record { 0 = object_in (coded_place w code) (code / CODED_RECORDS) }
