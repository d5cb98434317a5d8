-- A thread at work: what its seat knows is what it made and keeps.
use Rattle.std.specs.Prelude.{◌≡◌, ◌≤◌, ℕ, ◌+◌, ◌++◌, Bool, true, [], ◌∷◌, length, Option}
use Rattle.atomic_table.specs.Seated.{TableId}
use Rattle.omi_script.specs.declared.program.Program.{Program}
use Rattle.omi_layout.specs.declared.layout.Layout.{Layout}
use Rattle.omi_layout.specs.Place.{image_words}
use Rattle.omi_rep.specs.declared.outcome.Outcome.{Outcome}
use Rattle.omi_core.specs.declared.stop.Break.{Break}
use Rattle.omi_core.specs.declared.thread_run.Until.{Until}
use Rattle.omi_core.specs.declared.thread_run.Until.TheVariants as until
use Rattle.omi_seat.specs.Behind.{CanStep}
use Rattle.omi_seat.specs.Known.{actor_known, entry_known, steps_known}
use Rattle.omi_seat.specs.StepLog.{HasRoom, IsLogOf}
use Rattle.omi_seat.specs.Stops.{IsUntil, WentOn}
use Rattle.omi_live.specs.declared.known.Part.{Part}
use Rattle.omi_live.specs.declared.rule.Given.{Given}
use Rattle.omi_seat.specs.declared.worker.Worker.{Worker}
use Rattle.omi_live.specs.Accesses.{last_look, with_looks}
use Rattle.omi_live.specs.Plays.{looks, makes}

-- ---- the table

-- a table of the words of a program in a layout, and the stop word behind them
pub record IsTableFor (p : Program) (l : Layout) (on : Option Break) (key : Given)
    (id : TableId) : Type 0 where
  pub program : key.program.value ≡ p
  pub layout : key.layout.value ≡ l
  pub stops : key.on ≡ on
  pub count : id.words ≡ image_words l.table + 1

-- ---- the thread

-- this worker is at work at a table, for one thread of a program in a layout
pub record IsAtWork (p : Program) (l : Layout) (id : TableId) (x : Part) (worker : Worker Part) : Type 0 where
  pub log : IsLogOf p l x.known worker.log
  pub table : worker.seat.table_id ≡ id
  pub knows : worker.seat.me ≡ (x ∷ [], [])

-- it is as it was, but for what its seat knows
pub record IsSameBut (old new : Worker Part) : Type 0 where
  pub table : new.seat.table_id ≡ old.seat.table_id
  pub log : new.log ≡ old.log

-- its seat looked at the stop word, which was raised or was not: it was where the thread was told so before
pub record HasLooked (x : Part) (raised : Bool) (worker : Worker Part) : Type 0 where
  pub knows : worker.seat.me ≡ (looks raised x ∷ [], [])
  pub told : x.told ≡ true → raised ≡ true
  pub able : CanStep x.known.program x.known.layout.table (actor_known x.known)

-- one more step found some word, this came of it, and it took the room of one step at most
pub record HasStepped (p : Program) (l : Layout) (id : TableId) (x : Part) (old new : Worker Part)
    (out : Outcome) : Type 0 where
  pub found : ℕ
  pub work : IsAtWork p l id (makes found x) new
  pub came : out ≡ (entry_known x.known found).outcome
  pub room : (m : ℕ) → HasRoom (m + 1) x.known old.log → HasRoom m (makes found x).known new.log

-- ---- its end

-- why it made no further step
pub record HasWorked (budget : ℕ) (on : Option Break) (x : Part) (why : Until) : Type 0 where
  pub reason : IsUntil budget (steps_known x.known) why
  pub most : length (steps_known x.known) ≤ budget
  pub went_on : WentOn on (steps_known x.known)
  pub stopped : why ≡ until.Stopped → x.told ≡ true
  pub did : x.accesses ≡ with_looks on (steps_known x.known) ++ last_look why
