-- Kinds of steps of teams: what the stores that begin, end and join implicit tasks keep of the words, whatever thread makes them.
use Rattle.std.specs.Prelude.{◌≡◌, ◌≢◌, ℕ, ◌+◌, ◌<◌, true, false, List, drop, slice_get, All, Some, None}
use Rattle.omi_script.specs.declared.program.Program.{Program}
use Rattle.omi_model.specs.declared.id.Rid.{Rid}
use Rattle.omi_model.specs.declared.id.Tid.{Tid}
use Rattle.omi_model.specs.declared.progress.Progress.TheVariants as progress
use Rattle.omi_model.specs.declared.region.Region.{Region}
use Rattle.omi_model.specs.declared.task.Task.{Task}
use Rattle.omi_model.specs.Columns.{tasks_of}
use Rattle.omi_model.specs.LawNames.{AreNamesLive}
use Rattle.omi_model.specs.State.{State, region_of, task_of}
use Rattle.omi_model.specs.Teams.{forked, joined, master_of, member_task, new_region, task_begun, task_ended}
use Rattle.omi_numbers.specs.declared.limits.TheConstants.{OPEN_GROUPS, OWN_SLOTS}
use Rattle.omi_layout.specs.declared.limits.TheConstants.{COUNT_PLACE}
use Rattle.omi_layout.specs.declared.field.Field.TheVariants.{ThreadCurrent, RegionPending, RegionLeft, TaskChildren, TaskReferences, TaskSlots}
use Rattle.omi_layout.specs.Field.{threads, regions, tasks}
use Rattle.omi_layout.specs.Memory.{Rec, MadeRecords, Memory, replace_at, with_word}
use Rattle.omi_layout.specs.Named.{number}
use Rattle.omi_layout.specs.Table.{per_thread}
use Rattle.omi_layout.specs.Valid.{IsValid}
use Rattle.omi_rep.specs.Codes.{HasCodes, region_code, region_told, task_code, task_told}
use Rattle.omi_rep.specs.Records.{task_address, task_word}
use Rattle.omi_rule_words.specs.Owes.{Owed, nothing}
use Rattle.omi_rule_words.specs.Counts.{ended_members}
use Rattle.omi_rule_words.specs.Groups.{AreOwnersLive}
use Rattle.omi_rule_words.specs.Threads.{Has, WaitsFor}
use Rattle.omi_rule_words.specs.Words.{KeepsWords}

-- A thread has read the task in its assign word and cleared it, and begins this task: it stores the task's record as its current
-- one. No other task waits for that thread
abbrev pub BeginsKeep : Type 0
BeginsKeep = (w : List ℕ) (m : Memory) (s : State) (owes : ℕ → Owed) (i : ℕ) (k : Tid)
    → KeepsWords w m s owes → i < s.count → owes i ≡ record nothing { met = true }
    → WaitsFor s i k → ((t : Tid) → WaitsFor s i t → t ≡ k)
    → ((t : Task) → task_of s k ≡ Some t → t.implicit ≡ true)
    → KeepsWords w (with_word m i threads 0 (number ThreadCurrent) 0 (task_address w k))
    (task_begun s i k) (replace_at owes i nothing)

-- A record in the making stands filled for a region that is new: it has each code of the region, and counts nothing
pub record RegionIsFilled (w : List ℕ) (r : Rec) (region : Region) : Type 0 where
  pub codes : HasCodes (region_code w (region_told region)) r
  pub pending : Has r RegionPending 0 0
  pub left : Has r RegionLeft 0 0

-- and for a member's task that is new: it counts nothing, nor do its groups, and its slots for deferred tasks are empty
pub record MemberIsFilled (w : List ℕ) (r : Rec) (task : Task) : Type 0 where
  pub codes : HasCodes (task_code w (task_told task)) r
  pub children : Has r TaskChildren 0 0
  pub references : Has r TaskReferences 0 0
  pub slots : (place : ℕ) → place < OWN_SLOTS → Has r TaskSlots place 0
  pub groups : (index : ℕ) → index < OPEN_GROUPS → Has r TaskSlots (COUNT_PLACE + index) 0

-- all records of a fork: task k, which is t, in region r, encounters a parallel construct of this function and gets this team
pub record ForkIsFilled (p : Program) (w : List ℕ) (made : MadeRecords) (region : Rid) (team : List (Tid × ℕ))
    (f : ℕ) (k : Tid) (t : Task) (r : Region) : Type 0 where
  pub region_record : RegionIsFilled w (made regions region.0.slot) (new_region k t r team f)
  pub members : (j : ℕ) (m : Tid × ℕ) → slice_get team j ≡ Some m
      → MemberIsFilled w (made tasks m.0.0.slot) (member_task p region k t r f j m.1)

-- no task waits for a thread, and it has met none
pub record HasNoTask (s : State) (owes : ℕ → Owed) (i : ℕ) : Type 0 where
  pub waits : (k : Tid) → WaitsFor s i k → ⊥
  pub met : (owes i).met ≡ false

-- A thread forks: all records in the making are filled, and it stores that of member 0 as its current task's. From then on it
-- owes the other members' tasks to the assign words of their threads, for which no task waits yet
abbrev pub ForksKeep : Type 0
ForksKeep = (p : Program) (w : List ℕ) (m : Memory) (s : State) (owes : ℕ → Owed) (i : ℕ) (region : Rid)
    (team : List (Tid × ℕ)) (f : ℕ) (k : Tid) (t : Task) (r : Region)
    → KeepsWords w m s owes → i < s.count
    → owes i ≡ record nothing { region = Some region; tasks = tasks_of team }
    → ForkIsFilled p w (m i) region team f k t r
    → All (λ x. HasNoTask s owes x.1) (drop 1 team) → AreNamesLive s → AreOwnersLive s → IsValid w
    → KeepsWords w
    (with_word m i threads 0 (number ThreadCurrent) 0 (task_word w (master_of team)))
    (forked p s i region team f k t r) (replace_at owes i (record nothing { assigns = drop 1 team }))

-- An implicit task has begun and not finished, in this region
pub record IsRunningMember (s : State) (k : Tid) (t : Task) (r : Region) : Type 0 where
  pub live : task_of s k ≡ Some t
  pub implicit : t.implicit ≡ true
  pub progress : t.progress ≡ progress.Begun
  pub region : region_of s t.region ≡ Some r

-- A member other than member 0 ends: its thread stores that it has no current task, and owes its departure from then on
abbrev pub EndsKeep : Type 0
EndsKeep = (w : List ℕ) (m : Memory) (s : State) (owes : ℕ → Owed) (i : ℕ) (k : Tid) (t : Task)
    (r : Region) → KeepsWords w m s owes → i < s.count → owes i ≡ nothing → IsRunningMember s k t r
    → t.number ≢ 0 → slice_get r.ended t.number ≡ Some false → r.joined ≡ false
    → KeepsWords w (with_word m i threads 0 (number ThreadCurrent) 0 0) (task_ended s i k t)
    (replace_at owes i (record nothing { left = Some t.region }))

-- It departs: 1 is added to the region's word for the members that have left, and the thread owes this no more
abbrev pub LeavesKeep : Type 0
LeavesKeep = (w : List ℕ) (m : Memory) (s : State) (owes : ℕ → Owed) (i : ℕ) (n : Rid)
    → KeepsWords w m s owes → i < s.count → (owes i).left ≡ Some n
    → KeepsWords w
    (with_word m n.0.creator regions n.0.slot (number RegionLeft) 0
    (m n.0.creator regions n.0.slot (number RegionLeft) 0 + 1)) s
    (replace_at owes i (record (owes i) { left = None }))

-- Member 0 joins the others: its thread stores the record of the task that encountered the region as its current one. No thread
-- owes a departure from this region
abbrev pub JoinsKeep : Type 0
JoinsKeep = (w : List ℕ) (m : Memory) (s : State) (owes : ℕ → Owed) (i : ℕ) (k : Tid) (t : Task)
    (r : Region) → KeepsWords w m s owes → i < s.count → IsRunningMember s k t r
    → ((j : ℕ) → j < s.count → (owes j).left ≢ Some t.region)
    → KeepsWords w
    (with_word m i threads 0 (number ThreadCurrent) 0 (task_word w r.encountering))
    (joined s i k t r) owes

-- Where the word of a live region for the members that have left is the number of those that have ended, no thread owes a
-- departure
abbrev pub AllHaveLeft : Type 0
AllHaveLeft = (w : List ℕ) (m : Memory) (s : State) (owes : ℕ → Owed) (n : Rid) (r : Region)
    → KeepsWords w m s owes → region_of s n ≡ Some r → n.0.creator < s.count
    → n.0.slot < per_thread w regions
    → m n.0.creator regions n.0.slot (number RegionLeft) 0 ≡ ended_members r
    → (j : ℕ) → j < s.count → (owes j).left ≢ Some n
