-- The watch of a thread: what its own steps so far come to, by the operation, the word that it found and the outcome of each. A step of
-- another thread leaves it as it is.
use Rattle.std.specs.Prelude.{ℕ, ◌+◌, ◌/◌, ◌%◌, ◌==◌, ◌&&◌, ◌||◌, nat_le, Bool, true, false, not, List, ◌∷◌, length, slice_get, Option, Some, None, if◌then◌else◌}
use Rattle.std.specs.Option.{option_and_then, option_map, option_map_or}
use Rattle.omi_word.specs.declared.op.Op.{Op}
use Rattle.omi_word.specs.declared.op.Op.TheVariants as op
use Rattle.omi_model.specs.declared.id.Id.{Id}
use Rattle.omi_model.specs.declared.id.Tid.{Tid}
use Rattle.omi_model.specs.declared.item.Item.{Item}
use Rattle.omi_model.specs.declared.item.Item.TheVariants as item
use Rattle.omi_model.specs.declared.region.Region.{Region}
use Rattle.omi_model.specs.Changes.{list_of}
use Rattle.omi_model.specs.Groups.{innermost}
use Rattle.omi_model.specs.State.{State, current_task, region_of, task_of}
use Rattle.omi_layout.specs.declared.field.Field.{Field}
use Rattle.omi_layout.specs.declared.field.Field.TheVariants.{RegionArrived, RegionLife, RegionPending, RegionReleased, TaskChildren, TaskGenerating, TaskLife, TaskSlots}
use Rattle.omi_layout.specs.Field.{kind_of}
use Rattle.omi_layout.specs.Named.{number}
use Rattle.omi_layout.specs.Table.{per_thread}
use Rattle.omi_numbers.specs.declared.limits.TheConstants.{OWN_SLOTS}
use Rattle.omi_rep.specs.declared.outcome.Outcome.{Outcome}
use Rattle.omi_rep.specs.declared.outcome.Outcome.TheVariants as outcome
use Rattle.omi_layout.specs.declared.limits.TheConstants.{COUNT_PLACE, GROUP_PLACE}
use Rattle.omi_rep.specs.Records.{group_word, task_word}
use Rattle.omi_step_words.specs.Words.{is_free, object_in, used_word}
use Rattle.omi_task.specs.Slots.{coded_place}
use Rattle.omi_rule.specs.Steps.{RecordWord}

-- ---- the parts

-- the search for a record that is free
pub record Search : Type 0 where
  -- the life word that is to be loaded next, where a search goes on
  pub expected : Option RecordWord
  -- the objects whose own records were found free and are not taken yet: a region and a task
  pub region : Option Id
  pub task : Option Id

-- the look at the slots: so many were passed, one after the other, and this code was seen in the next one
pub record SlotLook : Type 0 where
  pub looked : ℕ
  pub seen : Option ℕ

pub record Watch : Type 0 where
  -- the quiet steps in a row
  pub quiet : ℕ
  pub search : Search
  pub look : SlotLook

-- before the first step
abbrev pub no_search : Search
no_search = record { expected = None; region = None; task = None }

abbrev pub no_look : SlotLook
no_look = record { looked = 0; seen = None }

abbrev pub opening_watch : Watch
opening_watch = record { quiet = 0; search = no_search; look = no_look }

-- ---- operations

abbrev pub is_load : Op → Bool
is_load (op.Load at) = true
is_load o = false

-- the store of this word
abbrev pub stores : ℕ → Op → Bool
stores word (op.Store at new) = new == word
stores word o = false

-- an exchange from this word
abbrev pub exchanges : ℕ → Op → Bool
exchanges code (op.Cas at before new) = before == code
exchanges code o = false

-- ---- quiet steps

abbrev pub quiet_after : Outcome → ℕ → ℕ
quiet_after outcome.Quiet n = n + 1
quiet_after out n = 0

-- ---- the search

-- this is the life word of a record that thread i makes, where `life` is the life word of regions or of tasks
abbrev pub is_own : Field → ℕ → RecordWord → Bool
is_own life i x = number x.field == number life && x.creator == i

abbrev pub is_own_life : ℕ → RecordWord → Bool
is_own_life i x = is_own RegionLife i x || is_own TaskLife i x

-- the life word of the slot behind it, and behind the last one that of slot 0
abbrev pub life_behind : List ℕ → RecordWord → RecordWord
life_behind w x = record x { slot = (x.slot + 1) % per_thread w (kind_of (number x.field)) }

-- a search goes on behind a record that is not free
abbrev pub expected_after : List ℕ → ℕ → RecordWord → Outcome → Option RecordWord
expected_after w i x (outcome.NotReady address word) =
    if is_own_life i x then Some (life_behind w x) else None
expected_after w i x out = None

-- a quiet load finds a record that is free
abbrev pub finds : Field → ℕ → RecordWord → Op → ℕ → Outcome → Bool
finds life i x o found outcome.Quiet = is_load o && (is_own life i x && is_free found)
finds life i x o found out = false

-- the object that is made in it: that of the slot's next generation
abbrev pub found_in_slot : RecordWord → ℕ → Id
found_in_slot x found = object_in (record { creator = x.creator; slot = x.slot }) found

-- and the store of the object's odd life word takes it
abbrev pub takes : Field → ℕ → RecordWord → Op → Id → Bool
takes life i x o n = stores (used_word n) o && (is_own life i x && x.slot == n.slot)

abbrev pub found_after : Field → ℕ → RecordWord → Op → ℕ → Outcome → Option Id → Option Id
found_after life i x o found out None =
    if finds life i x o found out then Some (found_in_slot x found) else None
found_after life i x o found out (Some n) = if takes life i x o n then None else Some n

abbrev pub search_after : List ℕ → ℕ → RecordWord → Op → ℕ → Outcome → Search → Search
search_after w i x o found out h =
    record {
      expected = expected_after w i x out;
      region = found_after RegionLife i x o found out h.region;
      task = found_after TaskLife i x o found out h.task;
    }

-- ---- the look

-- the words on which a thread waits while deferred tasks may start
abbrev pub is_waiting_field : Field → Bool
is_waiting_field RegionReleased = true
is_waiting_field RegionArrived = true
is_waiting_field RegionPending = true
is_waiting_field TaskChildren = true
is_waiting_field f = false

-- and the count of a group, which stands behind the slots
abbrev pub is_count : RecordWord → Bool
is_count x = number x.field == number TaskSlots && nat_le COUNT_PLACE x.place

abbrev pub is_waiting : RecordWord → Bool
is_waiting x = is_waiting_field x.field || is_count x

-- the region of the current task of a thread
abbrev pub current_region : State → ℕ → Option Region
current_region s i = option_and_then (λ t. region_of s t.region) (current_task s i)

-- its team's size, and the implicit task of a member
abbrev pub current_team_size : State → ℕ → ℕ
current_team_size s i = option_map_or (λ r. length r.team) (current_region s i) 0

abbrev pub current_member_task : State → ℕ → ℕ → Option Tid
current_member_task s i n =
    option_and_then (λ r. option_map (λ m. m.0) (slice_get r.team n)) (current_region s i)

-- this is the slot with number n: each member has four, in the record of its implicit task
abbrev pub is_slot : State → ℕ → ℕ → RecordWord → Bool
is_slot s i n x =
    (number x.field == number TaskSlots && x.place == n % OWN_SLOTS)
    && option_map_or (λ k. x.creator == k.0.creator && x.slot == k.0.slot)
    (current_member_task s i (n / OWN_SLOTS)) false

-- this is the word for the generating task in the record that a code names
abbrev pub is_generating_of : List ℕ → ℕ → RecordWord → Bool
is_generating_of w code x =
    number x.field == number TaskGenerating
    && (x.creator == (coded_place w code).creator && x.slot == (coded_place w code).slot)

-- this is the word for the group in the record that a code names
abbrev pub is_group_of : List ℕ → ℕ → RecordWord → Bool
is_group_of w code x =
    (number x.field == number TaskSlots && x.place == GROUP_PLACE)
    && (x.creator == (coded_place w code).creator && x.slot == (coded_place w code).slot)

-- only children of the current task start here: at the end of taskwait, and at taskyield
abbrev pub children_start : List Item → Bool
children_start (item.Tasks state ∷ item.WaitDone ∷ xs) = true
children_start (item.OneTask ∷ xs) = true
children_start xs = false

-- only tasks of the current task's innermost open group start here: at the end of its taskgroup region
abbrev pub members_start : List Item → Bool
members_start (item.Tasks state ∷ item.GroupEnd ∷ xs) = true
members_start xs = false

-- the word of this group
abbrev pub group_to_end : List ℕ → State → ℕ → ℕ
group_to_end w s i =
    group_word w
    (option_and_then (λ k. option_and_then (innermost k) (task_of s k)) (s.threads i).current)

-- the task that was seen is no longer there
abbrev pub is_gone : State → ℕ → RecordWord → Op → ℕ → ℕ → ℕ → Bool
is_gone s i x o found n code = exchanges code o && (is_slot s i n x && not (found == code))

-- it is no child of the current task, where only children start
abbrev pub is_no_child : List ℕ → State → ℕ → RecordWord → Op → ℕ → ℕ → Bool
is_no_child w s i x o found code =
    (is_load o && is_generating_of w code x)
    && (children_start (list_of s i) && not (found == task_word w (s.threads i).current))

-- it is no task of that group, where only those start
abbrev pub is_no_member : List ℕ → State → ℕ → RecordWord → Op → ℕ → ℕ → Bool
is_no_member w s i x o found code =
    (is_load o && is_group_of w code x)
    && (members_start (list_of s i) && not (found == group_to_end w s i))

-- A slot is passed where it is empty, or where the task that was seen in it is not to be had. A code that is seen stays so till then
abbrev pub looked_at : List ℕ → State → ℕ → RecordWord → Op → ℕ → ℕ → Option ℕ → SlotLook
looked_at w s i x o found n None =
    if is_load o && is_slot s i n x
    then (if found == 0 then record { looked = n + 1; seen = None }
    else record { looked = n; seen = Some found })
    else record { looked = n; seen = None }
looked_at w s i x o found n (Some code) =
    if is_gone s i x o found n code || (is_no_child w s i x o found code || is_no_member w s i x o found code)
    then record { looked = n + 1; seen = None }
    else record { looked = n; seen = Some code }

-- an event, and a wait on one of the words for which it looks, end a look
abbrev pub look_after : List ℕ → State → ℕ → RecordWord → Op → ℕ → Outcome → SlotLook → SlotLook
look_after w s i x o found outcome.Quiet h = looked_at w s i x o found h.looked h.seen
look_after w s i x o found (outcome.Event e) h = no_look
look_after w s i x o found (outcome.NotReady address word) h =
    if is_waiting x then no_look else h
look_after w s i x o found outcome.Ended h = h

-- ---- the whole

-- the watch of thread i behind a step of it from a state, on this word of a record, which it found so
abbrev pub watched : List ℕ → State → ℕ → RecordWord → Op → ℕ → Outcome → Watch → Watch
watched w s i x o found out h =
    record {
      quiet = quiet_after out h.quiet;
      search = search_after w i x o found out h.search;
      look = look_after w s i x o found out h.look;
    }
