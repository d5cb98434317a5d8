-- What is demanded of each step of a thread, by its watch: it does not go on quietly for ever, it searches its records one after the
-- other from slot 0 on, takes none but the one that it found, and before it waits where deferred tasks may start it has looked at every slot
-- of its team.
use Rattle.std.specs.Prelude.{◌≡◌, ◌⊎◌, ℕ, ◌+◌, ◌*◌, ◌%◌, ◌<◌, ◌≤◌, ◌==◌, ◌&&◌, ◌||◌, Bool, true, not, List, length, is_none, Option, Some, None}
use Rattle.omi_word.specs.declared.op.Op.{Op}
use Rattle.omi_word.specs.Memory.{left_of}
use Rattle.omi_script.specs.declared.program.Program.{Program}
use Rattle.omi_model.specs.declared.id.Id.{Id}
use Rattle.omi_model.specs.declared.slot.Slot.{Slot}
use Rattle.omi_model.specs.LawClaims.{IsForking}
use Rattle.omi_model.specs.State.{State}
use Rattle.omi_model.specs.Teams.{got_threads}
use Rattle.omi_layout.specs.declared.field.Field.{Field}
use Rattle.omi_layout.specs.declared.field.Field.TheVariants.{RegionLife, TaskLife}
use Rattle.omi_layout.specs.Field.{regions, tasks}
use Rattle.omi_layout.specs.Memory.{Memory}
use Rattle.omi_layout.specs.Named.{number}
use Rattle.omi_layout.specs.Table.{per_thread}
use Rattle.omi_numbers.specs.declared.limits.TheConstants.{OWN_SLOTS}
use Rattle.omi_rep.specs.declared.outcome.Outcome.{Outcome}
use Rattle.omi_rep.specs.declared.outcome.Outcome.TheVariants as outcome
use Rattle.omi_rule_words.specs.Counts.{one, sum_below}
use Rattle.omi_rule.specs.Steps.{RecordWord, found_in}
use Rattle.omi_rule_watch.specs.Watch.{Search, SlotLook, Watch, finds, is_load, is_own, is_own_life, is_waiting, quiet_after, current_team_size, takes}

-- ---- quiet steps

-- of so many threads, each makes at most so many quiet steps in a row
abbrev pub most_in_row : ℕ → ℕ
most_in_row threads = 200 + 100 * threads

-- ---- the records that a thread owes

-- a record with an odd life word and without a live object is in the making
abbrev pub is_in_making : {A : Type 0} → Slot A → ℕ → Bool
is_in_making slot life = is_none slot.live && life % 2 == 1

-- so many does thread i owe, of regions and of tasks
abbrev pub owed_regions : List ℕ → Memory → State → ℕ → ℕ
owed_regions w m s i =
    sum_below (per_thread w regions)
    (λ slot. one (is_in_making (s.regions i slot) (m i regions slot (number RegionLife) 0)))

abbrev pub owed_tasks : List ℕ → Memory → State → ℕ → ℕ
owed_tasks w m s i =
    sum_below (per_thread w tasks)
    (λ slot. one (is_in_making (s.tasks i slot) (m i tasks slot (number TaskLife) 0)))

-- One more record of a region may be owed where a fork is in the making and none is. One more of a task may be owed where none is, and in
-- a fork where they are no more than the threads that were got
abbrev pub MayOweRegion : List ℕ → Memory → State → ℕ → Type 0
MayOweRegion w m s i = IsForking s i × (owed_regions w m s i < 1)

abbrev pub MayOweTask : List ℕ → Memory → State → ℕ → Type 0
MayOweTask w m s i = (owed_tasks w m s i < 1)
    ⊎ (IsForking s i × (owed_tasks w m s i < length (got_threads (s.threads i).asks) + 1))

-- ---- the search

-- a step searches where the thread can't go on at the life word of an own record, or finds the record free
abbrev pub searches : ℕ → RecordWord → Op → ℕ → Outcome → Bool
searches i x o found (outcome.NotReady address word) = is_own_life i x
searches i x o found out = finds RegionLife i x o found out || finds TaskLife i x o found out

-- where no search goes on, one begins at slot 0
abbrev pub BeginsSearch : ℕ → RecordWord → Op → ℕ → Outcome → Search → Type 0
BeginsSearch i x o found out h =
    h.expected ≡ None → searches i x o found out ≡ true → x.slot ≡ 0

-- a search passes over a record only where it has found none, and may owe one more
pub record SearchesOn (w : List ℕ) (m : Memory) (s : State) (i : ℕ) (x : RecordWord) (h : Search)
    : Type 0 where
  pub region : is_own RegionLife i x ≡ true → (h.region ≡ None) × MayOweRegion w m s i
  pub task : is_own TaskLife i x ≡ true → (h.task ≡ None) × MayOweTask w m s i

-- where it goes on, the next step loads the life word of the next slot
abbrev pub IsExpected : Option RecordWord → Op → RecordWord → Type 0
IsExpected None o x = Unit {0}
IsExpected (Some y) o x = (is_load o ≡ true) × (x ≡ y)

abbrev pub MeetsOrder : List ℕ → Memory → State → ℕ → RecordWord → Op → Outcome → Search → Type 0
MeetsOrder w m s i x o (outcome.NotReady address word) h =
    BeginsSearch i x o (found_in m x) (outcome.NotReady address word) h
    × IsExpected h.expected o x × SearchesOn w m s i x h
MeetsOrder w m s i x o out h =
    BeginsSearch i x o (found_in m x) out h × IsExpected h.expected o x

-- a step takes an own record where it changes the record's life word to that of a live object, an odd one
abbrev pub takes_record : Field → ℕ → RecordWord → Op → ℕ → Bool
takes_record life i x o found =
    is_own life i x && (left_of o found % 2 == 1 && not (left_of o found == found))

-- and then it stores the life word of the object that the search found
abbrev pub TakesFound : Field → ℕ → RecordWord → Op → ℕ → Option Id → Type 0
TakesFound life i x o found h =
    takes_record life i x o found ≡ true → (n : Id) × (h ≡ Some n) × (takes life i x o n ≡ true)

-- the search goes in order, and what is taken was found by it
pub record MeetsSearch (w : List ℕ) (m : Memory) (s : State) (i : ℕ) (x : RecordWord) (o : Op)
    (out : Outcome) (h : Search) : Type 0 where
  pub order : MeetsOrder w m s i x o out h
  pub region : TakesFound RegionLife i x o (found_in m x) h.region
  pub task : TakesFound TaskLife i x o (found_in m x) h.task

-- ---- the look

-- a thread waits where deferred tasks may start only when it has looked at all slots of its team
abbrev pub MeetsLook : State → ℕ → RecordWord → Outcome → SlotLook → Type 0
MeetsLook s i x (outcome.NotReady address word) h =
    is_waiting x ≡ true → h.looked ≡ OWN_SLOTS * current_team_size s i
MeetsLook s i x out h = Unit {0}

-- ---- the whole

-- what a step of thread i, on this word of a record, meets where the thread has this watch
pub record MeetsDemands (p : Program) (w : List ℕ) (m : Memory) (s : State) (i : ℕ) (x : RecordWord)
    (o : Op) (out : Outcome) (h : Watch) : Type 0 where
  pub quiet : quiet_after out h.quiet ≤ most_in_row p.threads
  pub search : MeetsSearch w m s i x o out h.search
  pub look : MeetsLook s i x out h.look
