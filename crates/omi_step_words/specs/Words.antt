-- The words on which a step operates, by the record and the field, and what is read back from a word.
use Rattle.std.specs.Prelude.{ℕ, ◌==◌, ◌+◌, ◌-◌, ◌*◌, ◌/◌, ◌%◌, ◌^◌, ◌&&◌, nat_lt, Bool, List, if◌then◌else◌}
use Rattle.omi_numbers.specs.declared.limits.TheConstants.{OPEN_GROUPS}
use Rattle.omi_numbers.specs.declared.lives.TheConstants.{LIFE_END}
use Rattle.omi_numbers.specs.Lives.{life_word}
use Rattle.omi_model.specs.declared.id.Id.{Id}
use Rattle.omi_model.specs.declared.id.Rid.{Rid}
use Rattle.omi_model.specs.declared.id.Tid.{Tid}
use Rattle.omi_layout.specs.declared.field.Field.{Field}
use Rattle.omi_layout.specs.declared.field.Field.TheVariants.{RegionTeam, TaskSlots}
use Rattle.omi_layout.specs.declared.limits.TheConstants.{COUNT_PLACE}
use Rattle.omi_layout.specs.Field.{tasks, regions}
use Rattle.omi_layout.specs.Memory.{word_address}
use Rattle.omi_layout.specs.Named.{number}
use Rattle.omi_layout.specs.Place.{slot_address}
use Rattle.omi_layout.specs.Table.{makers, per_thread, place, size}
use Rattle.omi_pc.specs.declared.place.Place.{Place}

-- ---- addresses

-- a word of the runtime record, and of a thread's
abbrev pub of_runtime : List ℕ → Field → ℕ
of_runtime w f = word_address w 0 0 (number f) 0

abbrev pub of_thread : List ℕ → ℕ → Field → ℕ
of_thread w i f = word_address w i 0 (number f) 0

-- the first word of a field of a record in a slot, of a region and of a task
abbrev pub of_place : List ℕ → Place → Field → ℕ
of_place w at f = word_address w at.creator at.slot (number f) 0

abbrev pub of_region : List ℕ → Rid → Field → ℕ
of_region w n f = word_address w n.0.creator n.0.slot (number f) 0

abbrev pub of_task : List ℕ → Tid → Field → ℕ
of_task w k f = word_address w k.0.creator k.0.slot (number f) 0

-- the word of a member in the team of a region
abbrev pub of_member : List ℕ → Rid → ℕ → ℕ
of_member w r member = word_address w r.0.creator r.0.slot (number RegionTeam) member

-- ---- words for groups

-- a word of a task for groups, behind its slots: its group, and how many groups it has open
abbrev pub of_groups : List ℕ → Tid → ℕ → ℕ
of_groups w k at = word_address w k.0.creator k.0.slot (number TaskSlots) at

-- the count of a task's open group with this index
abbrev pub of_count : List ℕ → Tid → ℕ → ℕ
of_count w k index = of_groups w k (COUNT_PLACE + index)

-- ---- life words

-- the life word of a record that is in use
abbrev pub used_word : Id → ℕ
used_word n = life_word n.generation

-- the life word of a record whose object is given back
abbrev pub unused_word : Id → ℕ
unused_word n = 2 * n.generation + 2

-- a record that may be taken: its life word is even, and a further generation has a number
abbrev pub is_free : ℕ → Bool
is_free life = life % 2 == 0 && nat_lt life LIFE_END

-- the generation that a life word counts
abbrev pub generation_of : ℕ → ℕ
generation_of life = life / 2 % 2 ^ 32

-- the object in a slot whose record has this life word
abbrev pub object_in : Place → ℕ → Id
object_in at life =
    record { creator = at.creator; slot = at.slot; generation = generation_of life }

-- ---- what a word names

-- the slot of a record by the record's number in its arena
abbrev pub slot_by : List ℕ → ℕ → ℕ → Place
slot_by w kind index =
    record { creator = index / per_thread w kind; slot = index % per_thread w kind }

-- the number of the record in which an address lies
abbrev pub index_by : List ℕ → ℕ → ℕ → ℕ
index_by w kind address = (address - place w kind) / (8 * size w kind)

-- the record of a slot begins at an address
abbrev pub begins_at : List ℕ → ℕ → ℕ → Place → Bool
begins_at w kind address at =
    nat_lt at.creator (makers w kind) && slot_address w kind at.creator at.slot == address

abbrev pub initial_place : Place
initial_place = record { creator = 0; slot = 0 }

-- the slot whose record begins at an address. The first one stands where no record begins there, which no word that is read
-- back names
abbrev pub place_at : List ℕ → ℕ → ℕ → Place
place_at w kind address =
    let at = slot_by w kind (index_by w kind address) in
    if begins_at w kind address at then at else initial_place

abbrev pub task_place : List ℕ → ℕ → Place
task_place w address = place_at w tasks address

abbrev pub region_place : List ℕ → ℕ → Place
region_place w address = place_at w regions address

-- the owner of the group for which a word stands, and the group's index: the address of the owner's record is a multiple of 8
abbrev pub group_index : ℕ → ℕ
group_index word = word % OPEN_GROUPS

abbrev pub group_owner : List ℕ → ℕ → Place
group_owner w word = task_place w (word - word % OPEN_GROUPS)

-- and the group's count
abbrev pub of_group_count : List ℕ → ℕ → ℕ
of_group_count w word =
    let owner = group_owner w word in
    word_address w owner.creator owner.slot (number TaskSlots) (COUNT_PLACE + group_index word)

-- ---- sums

-- a word and a number, as words are added
abbrev pub plus : ℕ → ℕ → ℕ
plus n by = (n + by) % 2 ^ 64
