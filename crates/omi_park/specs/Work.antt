-- A worker at work: what its seat knows is what it made and keeps.
use Rattle.std.specs.Prelude.{◌≡◌, ◌≢◌, ◌≤◌, ℕ, ◌+◌, [], ◌∷◌, length, Some, None}
use Rattle.atomic_table.specs.Seated.{TableId}
use Rattle.omi_word.specs.declared.limits.TheConstants.{MOST_WORDS}
use Rattle.omi_script.specs.declared.program.Program.{Program}
use Rattle.omi_layout.specs.declared.layout.Layout.{Layout}
use Rattle.omi_layout.specs.Place.{image_words}
use Rattle.omi_rep.specs.declared.outcome.Outcome.{Outcome}
use Rattle.omi_core.specs.declared.thread_run.Until.{Until}
use Rattle.omi_core.specs.declared.thread_run.Until.TheVariants as until
use Rattle.omi_seat.specs.declared.limits.TheConstants.{MOST_BUDGET}
use Rattle.omi_seat.specs.Behind.{CanStep}
use Rattle.omi_seat.specs.Known.{actor_known, entry_known, steps_known}
use Rattle.omi_seat.specs.Seats.{Seated}
use Rattle.omi_seat.specs.StepLog.{HasRoom, IsLogOf}
use Rattle.omi_seat.specs.Stops.{IsUntil, WentOn}
use Rattle.omi_park.specs.declared.known.Part.{Part}
use Rattle.omi_park.specs.declared.known.Part.TheVariants as part
use Rattle.omi_park.specs.declared.known.WorkerPart.{WorkerPart}
use Rattle.omi_park.specs.declared.limits.TheConstants.{LAST_EPOCH}
use Rattle.omi_park.specs.declared.rule.Given.{Given}
use Rattle.omi_seat.specs.declared.worker.Worker.{Worker}
use Rattle.omi_park.specs.Acknowledged.{HasLeft, HasNotBegun, IsOdd, IsParkedIn, acknowledgement, farewell, running}
use Rattle.omi_park.specs.Plays.{loads, makes}

-- ---- the table

-- a table of the words of a program in this layout, the epoch word, and a word of each worker
pub record IsTableOf (l : Layout) (key : Given) (id : TableId) : Type 0 where
  pub layout : key.layout.value ≡ l
  pub size : image_words l.table ≤ MOST_WORDS
  pub count : id.words ≡ image_words l.table + 1 + key.program.value.threads

-- one of this program
pub record IsTableFor (p : Program) (l : Layout) (key : Given) (id : TableId) : Type 0 where
  pub program : key.program.value ≡ p
  pub of : IsTableOf l key id

-- ---- what a seat knows

-- it stands for one worker
abbrev pub IsSeatOf : WorkerPart → Seated Part → Type 0
IsSeatOf x me = me ≡ (part.Worker x ∷ [], [])

-- The worker is neither parked in the epoch that it loaded nor has it left
pub record IsLoose (x : WorkerPart) : Type 0 where
  pub stays : HasLeft x.said → ⊥
  pub runs : (epoch : ℕ) → x.loaded ≡ Some epoch → IsParkedIn epoch x.said → ⊥

-- it has begun
abbrev pub HasBegun : WorkerPart → Type 0
HasBegun x = HasNotBegun x.said → ⊥

-- it has loaded no epoch since its thread's last step
pub record IsBefore (x : WorkerPart) : Type 0 where
  pub stays : HasLeft x.said → ⊥
  pub loaded : x.loaded ≡ None

-- it loaded an even epoch, so its thread may make its next step
pub record MayStep (x : WorkerPart) : Type 0 where
  pub stays : HasLeft x.said → ⊥
  pub begun : HasBegun x
  pub epoch : ℕ
  pub loaded : x.loaded ≡ Some epoch
  pub even : IsOdd epoch → ⊥
  pub able : CanStep x.known.program x.known.layout.table (actor_known x.known)

-- it may store this word: it runs, is to park in an odd epoch that it has loaded, or is to leave, with its number of steps
pub data MaySay (word : ℕ) (x : WorkerPart) : Type 0 where
  tells : x.loaded ≡ None → word ≡ running (length x.known.found) → MaySay word x
  parks : (epoch : ℕ) → x.loaded ≡ Some epoch → IsOdd epoch → epoch ≤ LAST_EPOCH
      → word ≡ acknowledgement epoch (length x.known.found) → MaySay word x
  leaves : x.loaded ≡ None → word ≡ farewell (length x.known.found) → MaySay word x

-- ---- the worker

-- it keeps as many steps as its seat knows of its thread
pub record IsWith (x : WorkerPart) (worker : Worker Part) : Type 0 where
  pub knows : IsSeatOf x worker.seat.me
  pub thread : worker.log.thread ≡ x.known.thread
  pub count : worker.log.steps ≡ length x.known.found
  pub few : length x.known.found ≤ MOST_BUDGET

-- it may store this word as its acknowledgement
pub record IsToSay (word : ℕ) (x : WorkerPart) (worker : Worker Part) : Type 0 where
  pub with_it : IsWith x worker
  pub loose : IsLoose x
  pub may : MaySay word x

-- it is to park in this epoch, which it has loaded
pub record IsToPark (epoch : ℕ) (x : WorkerPart) (worker : Worker Part) : Type 0 where
  pub with_it : IsWith x worker
  pub stays : HasLeft x.said → ⊥
  pub loaded : x.loaded ≡ Some epoch
  pub odd : IsOdd epoch
  pub last : epoch ≤ LAST_EPOCH
  pub runs : IsParkedIn epoch x.said → ⊥

-- it is between two steps of its thread, or before the first one
pub record IsPausing (x : WorkerPart) (worker : Worker Part) : Type 0 where
  pub with_it : IsWith x worker
  pub before : IsBefore x
  pub first : HasNotBegun x.said → x.known.found ≡ []

-- it has begun, and is between two steps
pub record IsToGoOn (x : WorkerPart) (worker : Worker Part) : Type 0 where
  pub pausing : IsPausing x worker
  pub begun : HasBegun x

-- it has said that it runs where that was due, and is to go on
pub record HasTold (x : WorkerPart) (worker : Worker Part) : Type 0 where
  pub part : WorkerPart
  pub same : part.known ≡ x.known
  pub goes : IsToGoOn part worker

-- it waits for an even epoch: the one that it loaded last, if any, is the one in which it parked
pub record IsWaiting (x : WorkerPart) (parked : ℕ) (worker : Worker Part) : Type 0 where
  pub part : WorkerPart
  pub same : part.known ≡ x.known
  pub with_it : IsWith part worker
  pub stays : HasLeft part.said → ⊥
  pub begun : HasBegun part
  pub loaded : (epoch : ℕ) → part.loaded ≡ Some epoch → epoch ≡ parked

-- this worker is at work at a table, for one thread of a program in a layout
pub record IsAtWork (p : Program) (l : Layout) (id : TableId) (x : WorkerPart) (worker : Worker Part)
    : Type 0 where
  pub log : IsLogOf p l x.known worker.log
  pub table : worker.seat.table_id ≡ id
  pub knows : IsSeatOf x worker.seat.me

-- it is as it was, but for what its seat knows
pub record IsSameBut (old new : Worker Part) : Type 0 where
  pub table : new.seat.table_id ≡ old.seat.table_id
  pub log : new.log ≡ old.log

-- it loaded this epoch. Where its word says that it is parked in it, it had loaded it before
pub record HasLoaded (x : WorkerPart) (epoch : ℕ) (worker : Worker Part) : Type 0 where
  pub knows : IsSeatOf (loads epoch x) worker.seat.me
  pub last : epoch ≤ LAST_EPOCH
  pub parked : IsParkedIn epoch x.said → x.loaded ≡ Some epoch
  pub able : CanStep x.known.program x.known.layout.table (actor_known x.known)

-- its thread may make its next step
pub record HasGoneOn (x : WorkerPart) (worker : Worker Part) : Type 0 where
  pub part : WorkerPart
  pub same : part.known ≡ x.known
  pub knows : IsSeatOf part worker.seat.me
  pub may : MayStep part

-- one more step found some word, this came of it, and it took the room of one step at most
pub record HasStepped (p : Program) (l : Layout) (id : TableId) (x : WorkerPart) (old new : Worker Part)
    (out : Outcome) : Type 0 where
  pub found : ℕ
  pub work : IsAtWork p l id (makes found x) new
  pub came : out ≡ (entry_known x.known found).outcome
  pub room : (m : ℕ) → HasRoom (m + 1) x.known old.log → HasRoom m (makes found x).known new.log

-- ---- its end

-- why it made no further step
pub record HasWorked (budget : ℕ) (x : WorkerPart) (why : Until) : Type 0 where
  pub reason : IsUntil budget (steps_known x.known) why
  pub most : length (steps_known x.known) ≤ budget
  pub went_on : WentOn None (steps_known x.known)
  pub never : why ≢ until.Stopped
