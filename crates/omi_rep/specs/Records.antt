-- The records of a memory with holes, and how objects stand in words: as the address of their record, and none as 0.
use Rattle.std.specs.Prelude.{ℕ, ◌+◌, ◌*◌, List, Option, Some}
use Rattle.std.specs.Option.{option_map_or}
use Rattle.omi_numbers.specs.declared.lives.TheConstants.{CODED_RECORDS}
use Rattle.omi_numbers.specs.Lives.{life_word}
use Rattle.omi_model.specs.declared.group.Group.{Group}
use Rattle.omi_model.specs.declared.id.Rid.{Rid}
use Rattle.omi_model.specs.declared.id.Tid.{Tid}
use Rattle.omi_layout.specs.Field.{runtime, threads, regions, tasks}
use Rattle.omi_layout.specs.Table.{offset}
use Rattle.omi_layout.specs.Place.{slot_address, index_of}
use Rattle.omi_word.specs.Words.{Words}
use Rattle.omi_layout.specs.Memory.{Memory}

-- the words of a record by field and place, None where no word is mapped
abbrev pub Seen : Type 0
Seen = ℕ → ℕ → Option ℕ

-- the words of all records, by the thread that made the record, kind and slot
abbrev pub Records : Type 0
Records = ℕ → ℕ → ℕ → Seen

-- the record at an address
abbrev pub record_at : List ℕ → Words → ℕ → Seen
record_at w words address = λ f at. words (address + 8 * (offset w f + at))

-- the records in the arenas of a layout
abbrev pub records_of : List ℕ → Words → Records
records_of w words = λ creator kind slot. record_at w words (slot_address w kind creator slot)

-- the records of a memory without holes
abbrev pub whole : Memory → Records
whole m = λ creator kind slot f at. Some (m creator kind slot f at)

-- the records of the runtime, a thread, a region and a task
abbrev pub runtime_address : List ℕ → ℕ
runtime_address w = slot_address w runtime 0 0

abbrev pub thread_address : List ℕ → ℕ → ℕ
thread_address w i = slot_address w threads i 0

abbrev pub region_address : List ℕ → Rid → ℕ
region_address w n = slot_address w regions n.0.creator n.0.slot

abbrev pub task_address : List ℕ → Tid → ℕ
task_address w k = slot_address w tasks k.0.creator k.0.slot

-- a region or none, a task or none
abbrev pub region_word : List ℕ → Option Rid → ℕ
region_word w n = option_map_or (region_address w) n 0

abbrev pub task_word : List ℕ → Option Tid → ℕ
task_word w k = option_map_or (task_address w) k 0

-- a task group or none: the record of its owner, and its index among those that the owner has open
abbrev pub group_word : List ℕ → Option Group → ℕ
group_word w g = option_map_or (λ x. task_address w x.owner + x.index) g 0

-- the code of a deferred task, by the life word and the number of its record. A slot without a task has 0
abbrev pub slot_word : List ℕ → Tid → ℕ
slot_word w k =
    life_word k.0.generation * CODED_RECORDS + index_of w tasks k.0.creator k.0.slot
