-- What is counted over the objects of a state and over threads.
use Rattle.std.specs.Prelude.{ℕ, zero, suc, ◌+◌, ◌==◌, ◌&&◌, ◌||◌, Bool, true, false, not, List, [], ◌∷◌, drop, Option, Some, None, if◌then◌else◌}
use Rattle.std.specs.Option.{option_and_then, option_map_or}
use Rattle.omi_model.specs.declared.id.Id.{Id}
use Rattle.omi_model.specs.declared.id.Rid.{Rid}
use Rattle.omi_model.specs.declared.id.Tid.{Tid}
use Rattle.omi_model.specs.declared.progress.Progress.{Progress}
use Rattle.omi_model.specs.declared.progress.Progress.TheVariants.{Deferred, NotBegun, Begun, Finished}
use Rattle.omi_model.specs.declared.region.Region.{Region}
use Rattle.omi_model.specs.declared.task.Task.{Task}
use Rattle.omi_model.specs.State.{State, task_of}
use Rattle.omi_pc.specs.declared.place.Place.{Place}
use Rattle.omi_layout.specs.Field.{tasks}
use Rattle.omi_layout.specs.Table.{per_thread}
use Rattle.omi_rule_words.specs.Owes.{Owed}

-- ---- sums

-- the sum of a function over the numbers below n
abbrev pub sum_below : ℕ → (ℕ → ℕ) → ℕ
sum_below zero f = 0
sum_below (suc n) f = sum_below n f + f n

-- 1 where a test holds
abbrev pub one : Bool → ℕ
one b = if b then 1 else 0

-- over the threads of a state, each with what it owes
abbrev pub sum_of_owed : State → (ℕ → Owed) → (Owed → ℕ) → ℕ
sum_of_owed s owes f = sum_below s.count (λ i. f (owes i))

-- over the tasks that are live, by the thread that made them and the slot
abbrev pub of_live : (Task → ℕ) → Option Task → ℕ
of_live f None = 0
of_live f (Some t) = f t

abbrev pub sum_of_slots : List ℕ → State → (ℕ → ℕ → Task → ℕ) → ℕ
sum_of_slots w s f =
    sum_below s.count
    (λ creator. sum_below (per_thread w tasks)
    (λ slot. of_live (f creator slot) (s.tasks creator slot).live))

abbrev pub sum_of_tasks : List ℕ → State → (Task → ℕ) → ℕ
sum_of_tasks w s f = sum_of_slots w s (λ creator slot. f)

-- ---- names

abbrev pub is_id : Id → Id → Bool
is_id a b = a.creator == b.creator && (a.slot == b.slot && a.generation == b.generation)

abbrev pub is_task : Tid → Tid → Bool
is_task k t = is_id k.0 t.0

abbrev pub is_region : Rid → Rid → Bool
is_region n r = is_id n.0 r.0

-- the same of a name that there may be
abbrev pub is_some_task : Tid → Option Tid → Bool
is_some_task k t = option_map_or (is_task k) t false

abbrev pub is_some_region : Rid → Option Rid → Bool
is_some_region n r = option_map_or (is_region n) r false

-- the name is one of an object at a place, and so of a place that there may be
abbrev pub is_at : Tid → Place → Bool
is_at k p = k.0.creator == p.creator && k.0.slot == p.slot

abbrev pub is_at_some : Tid → Option Place → Bool
is_at_some k p = option_map_or (is_at k) p false

-- one of these tasks has this slot of the thread that made it, and so of a region that there may be
abbrev pub has_slot : ℕ → List Tid → Bool
has_slot slot [] = false
has_slot slot (k ∷ ks) = k.0.slot == slot || has_slot slot ks

abbrev pub has_region_slot : ℕ → Option Rid → Bool
has_region_slot slot n = option_map_or (λ r. r.0.slot == slot) n false

-- ---- tasks

abbrev pub is_finished : Progress → Bool
is_finished Deferred = false
is_finished NotBegun = false
is_finished Begun = false
is_finished Finished = true

abbrev pub is_explicit : Task → Bool
is_explicit t = not t.implicit

-- an explicit task that has not finished
abbrev pub is_unfinished : Task → Bool
is_unfinished t = is_explicit t && not (is_finished t.progress)

-- an explicit task refers to its own record until it has finished
abbrev pub own_reference : Task → ℕ
own_reference t = one (is_unfinished t)

-- the unfinished explicit tasks of a region
abbrev pub unfinished_in : List ℕ → State → Rid → ℕ
unfinished_in w s n = sum_of_tasks w s (λ t. one (is_unfinished t && is_region n t.region))

-- the explicit tasks of a kind that a task has made: those that have not finished, and those that live
abbrev pub children_that : (Task → Bool) → List ℕ → State → Tid → ℕ
children_that is w s k = sum_of_tasks w s (λ t. one (is t && is_some_task k t.generating))

abbrev pub unfinished_children : List ℕ → State → Tid → ℕ
unfinished_children = children_that is_unfinished

abbrev pub live_children : List ℕ → State → Tid → ℕ
live_children = children_that is_explicit

-- ---- members

-- so many of these members have ended
abbrev pub count_true : List Bool → ℕ
count_true [] = 0
count_true (b ∷ bs) = one b + count_true bs

-- the members of a region that have ended, but member 0
abbrev pub ended_members : Region → ℕ
ended_members r = count_true (drop 1 r.ended)

-- ---- what a thread owes

-- on the word of a region for its unfinished explicit tasks
abbrev pub pending_owed : Rid → Owed → ℕ
pending_owed n o = one (is_some_region n o.pending)

-- on the word of a region for the members that have left
abbrev pub left_owed : Rid → Owed → ℕ
left_owed n o = one (is_some_region n o.left)

-- the task that made a task
abbrev pub generating_of : State → Tid → Option Tid
generating_of s k = option_and_then (λ t. t.generating) (task_of s k)

-- on the word of a task for its unfinished explicit children
abbrev pub children_owed : State → Tid → Owed → ℕ
children_owed s k o =
    one (is_some_task k o.raised)
    + one (is_some_task k (option_and_then (generating_of s) o.lowered))

-- on the word of a task for references: what was raised for a task in the making, and what is to be lowered for itself and for one
-- that was given back
abbrev pub references_owed : Tid → Owed → ℕ
references_owed k o = one (is_some_task k o.referred)
    + (one (is_some_task k o.own) + one (is_at_some k o.returned))

-- to give a task back
abbrev pub gives_owed : Tid → Owed → ℕ
gives_owed k o = one (is_some_task k o.gives)

-- to store a task into the assign word of a thread
abbrev pub assigns_in : ℕ → Tid → List (Tid × ℕ) → ℕ
assigns_in i k [] = 0
assigns_in i k (m ∷ ms) = one (m.1 == i && is_task k m.0) + assigns_in i k ms

abbrev pub assign_owed : ℕ → Tid → Owed → ℕ
assign_owed i k o = assigns_in i k o.assigns

-- to start a task
abbrev pub start_owed : Tid → Owed → ℕ
start_owed k o = one (is_some_task k o.hand)
