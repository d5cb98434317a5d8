-- A thread waits on a word: its place in the state is one that waits, and the word has a value that does not let it go on.
use Rattle.std.specs.Prelude.{◌≡◌, ◌≢◌, ◌⊎◌, ℕ, ◌+◌, ◌-◌, ◌*◌, ◌%◌, ◌<◌, List, ◌∷◌, length, slice_index}
use Rattle.omi_model.specs.declared.item.Item.{Item}
use Rattle.omi_model.specs.declared.item.Item.TheVariants as item
use Rattle.omi_model.specs.Changes.{OfCurrent, OfCurrentRegion}
use Rattle.omi_model.specs.LawClaims.{IsForking, WaitsForTeam}
use Rattle.omi_model.specs.State.{State}
use Rattle.omi_model.specs.Teams.{AreAsksOver}
use Rattle.omi_numbers.specs.declared.lives.TheConstants.{LIFE_END}
use Rattle.omi_layout.specs.declared.field.Field.{Field}
use Rattle.omi_layout.specs.declared.field.Field.TheVariants.{RegionArrived, RegionLeft, RegionLife, RegionPending, RegionReleased, RuntimeLocks, TaskChildren, TaskLife, ThreadAssign}
use Rattle.omi_layout.specs.Field.{regions, tasks}
use Rattle.omi_layout.specs.Memory.{word_address}
use Rattle.omi_layout.specs.Named.{number}
use Rattle.omi_layout.specs.Table.{per_thread}
use Rattle.omi_step_words.specs.Words.{of_count, of_place, of_region, of_task, of_thread}

-- ---- places in a list

-- the making of an explicit task is next
abbrev pub makes_next : List Item → Type 0
makes_next (item.Defer seen f final ∷ xs) = Unit {0}
makes_next (item.StartNow f final ∷ xs) = Unit {0}
makes_next xs = ⊥

-- this lock is next
abbrev pub locks_next : ℕ → List Item → Type 0
locks_next k (item.Lock l ∷ xs) = k ≡ l
locks_next k xs = ⊥

-- a member has arrived at a barrier and has its release ahead, or its pass
abbrev pub releases_next : List Item → Type 0
releases_next (item.Tasks state ∷ item.Release ∷ xs) = Unit {0}
releases_next xs = ⊥

abbrev pub passes_next : List Item → Type 0
passes_next (item.Tasks state ∷ item.Pass ∷ xs) = Unit {0}
passes_next xs = ⊥

-- the end of a taskwait construct is next, that of a taskgroup region, and the join of a team
abbrev pub children_next : List Item → Type 0
children_next (item.Tasks state ∷ item.WaitDone ∷ xs) = Unit {0}
children_next xs = ⊥

abbrev pub members_next : List Item → Type 0
members_next (item.Tasks state ∷ item.GroupEnd ∷ xs) = Unit {0}
members_next xs = ⊥

abbrev pub joins_next : List Item → Type 0
joins_next (item.Join ∷ xs) = Unit {0}
joins_next xs = ⊥

-- ---- waits

-- a record of this kind is searched, and one of the thread's own can't be taken: its life word is odd as long as it is in use, and 2^33
-- where it has had all its generations
pub record IsRecordTaken (w : List ℕ) (i kind : ℕ) (life : Field) (address word : ℕ) : Type 0 where
  pub slot : ℕ
  pub within : slot < per_thread w kind
  pub address_is : address ≡ of_place w (record { creator = i; slot = slot }) life
  pub taken : (word % 2 ≡ 1) ⊎ (word ≡ LIFE_END)

-- a fork in the making asks no further thread, and chooses its records
abbrev pub ForksNext : State → ℕ → Type 0
ForksNext s i = IsForking s i × AreAsksOver s i

-- thread i waits on the word at this address, which has this value
pub data Waits (w : List ℕ) (s : State) (i address word : ℕ) : Type 0 where
  -- a worker waits for a task
  ForTask : WaitsForTeam s i → address ≡ of_thread w i ThreadAssign → word ≡ 0
      → Waits w s i address word
  -- a fork needs a record for its region, and a record for each member's task; so does an explicit task
  ForRegion : ForksNext s i → IsRecordTaken w i regions RegionLife address word → Waits w s i address word
  ForTaskRecord : ForksNext s i ⊎ OfCurrent s i (λ k t. makes_next t.list)
      → IsRecordTaken w i tasks TaskLife address word → Waits w s i address word
  -- a critical construct waits for its lock
  ForLock : (k : ℕ) → OfCurrent s i (λ j t. locks_next k t.list)
      → address ≡ word_address w 0 0 (number RuntimeLocks) k → word ≢ 0 → Waits w s i address word
  -- member 0 waits at a barrier for the others, and then for the explicit tasks of the region
  ForArrivals : OfCurrentRegion s i (λ k t r. releases_next t.list
      × (address ≡ of_region w t.region RegionArrived)
      × (word < length r.team * (r.released + 1))) → Waits w s i address word
  ForTasks : OfCurrentRegion s i (λ k t r. releases_next t.list
      × (address ≡ of_region w t.region RegionPending) × (word ≢ 0)) → Waits w s i address word
  -- any other member waits for the release
  ForRelease : OfCurrentRegion s i (λ k t r. passes_next t.list
      × (address ≡ of_region w t.region RegionReleased)
      × (word < slice_index r.arrivals t.number)) → Waits w s i address word
  -- a taskwait construct waits for the children of its task
  ForChildren : OfCurrent s i (λ k t. children_next t.list
      × (address ≡ of_task w k TaskChildren) × (word ≢ 0)) → Waits w s i address word
  -- a taskgroup region waits for the tasks of the innermost open group of its task
  ForGroup : OfCurrent s i (λ k t. members_next t.list
      × (address ≡ of_count w k (t.open_groups - 1)) × (word ≢ 0)) → Waits w s i address word
  -- member 0 waits at its end for the others to leave
  ForMembers : OfCurrentRegion s i (λ k t r. joins_next t.list
      × (address ≡ of_region w t.region RegionLeft)
      × (word < length r.team - 1)) → Waits w s i address word
