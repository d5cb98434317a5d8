-- What a thread at a table keeps of its steps, and its room for further ones.
use Rattle.std.specs.Prelude.{◌≡◌, ◌<◌, ◌≤◌, ℕ, ◌+◌, [], length, map}
use Rattle.omi_word.specs.declared.op.Op.{Op}
use Rattle.omi_script.specs.declared.program.Program.{Program}
use Rattle.omi_layout.specs.declared.layout.Layout.{Layout}
use Rattle.omi_actor.specs.Steps.{next_of}
use Rattle.omi_rep.specs.declared.outcome.Outcome.{Outcome}
use Rattle.omi_run_lists.specs.StepRoom.{room_for_steps}
use Rattle.omi_core.specs.RunSteps.{made_of, seats_of}
use Rattle.omi_core.specs.Steps.{events_behind}
use Rattle.omi_seat.specs.declared.known.Known.{Known}
use Rattle.omi_seat.specs.declared.limits.TheConstants.{MOST_BUDGET}
use Rattle.omi_seat.specs.declared.step_log.Kept.TheVariants as kept
use Rattle.omi_seat.specs.declared.step_log.StepLog.{StepLog}
use Rattle.omi_seat.specs.Behind.{CanStep}
use Rattle.omi_seat.specs.Known.{actor_known, claims_known, entry_known, finds, own_steps, steps_known}

-- What is kept of a thread of a program in a layout is what is known of it. Its steps are listed where they are kept, and none is where their number alone is
pub record IsLogOf (p : Program) (l : Layout) (x : Known) (log : StepLog) : Type 0 where
  pub program : x.program ≡ p
  pub layout : x.layout ≡ l
  pub thread : log.thread ≡ x.thread
  pub below : x.thread < p.threads
  pub steps : log.steps ≡ length x.found
  pub actor : log.actor ≡ actor_known x
  pub made : log.kept ≡ kept.Steps → log.made.items ≡ map (made_of x.thread) (steps_known x)
  pub none : log.kept ≡ kept.Count → log.made.items ≡ []
  pub events : log.events.items ≡ events_behind 0 (own_steps x.thread (steps_known x))

-- it has room for so many more steps, whatever they commit
pub record HasRoom (steps : ℕ) (x : Known) (log : StepLog) : Type 0 where
  pub made : log.kept ≡ kept.Steps → steps ≤ log.made.spare
  pub events : steps ≤ room_for_steps log.events (claims_known x)

-- this operation is the next one of the thread of which these steps are kept, and found this word
pub record IsNextOf (p : Program) (l : Layout) (op : Op) (n : ℕ) (x : Known) (kept : StepLog)
    : Type 0 where
  pub log : IsLogOf p l x kept
  pub is_next : op ≡ next_of x.program x.layout.table (actor_known x)
  pub seats : seats_of (entry_known x n).outcome ≤ claims_known x + 1

-- it may be listed
pub record MayList (p : Program) (l : Layout) (op : Op) (n : ℕ) (x : Known) (kept : StepLog)
    : Type 0 where
  pub next : IsNextOf p l op n x kept
  pub able : CanStep x.program x.layout.table (actor_known x)
  pub few : length x.found < MOST_BUDGET
  pub room : HasRoom 1 x kept

-- the step that found this word is listed, this came of it, and it took the room of one step at most
pub record HasListed (p : Program) (l : Layout) (n : ℕ) (x : Known) (old new : StepLog)
    (out : Outcome) : Type 0 where
  pub log : IsLogOf p l (finds n x) new
  pub came : out ≡ (entry_known x n).outcome
  pub room : (m : ℕ) → HasRoom (m + 1) x old → HasRoom m (finds n x) new
