-- A worker: a seat that stands for one thread, and what is kept of the thread's steps.
use Rattle.std.specs.Prelude.{◌≡◌, ◌<◌, ◌≤◌, ℕ, ◌+◌, List, length}
use Rattle.atomic_table.specs.Seated.{TableId}
use Rattle.atomic_table.specs.Table.{Me, State, Step}
use Rattle.omi_script.specs.declared.program.Program.{Program}
use Rattle.omi_layout.specs.declared.layout.Layout.{Layout}
use Rattle.omi_rep.specs.declared.outcome.Outcome.{Outcome}
use Rattle.omi_actor.specs.Steps.{next_of}
use Rattle.omi_core.specs.RunSteps.{seats_of}
use Rattle.omi_seat.specs.declared.known.Known.{Known}
use Rattle.omi_seat.specs.declared.limits.TheConstants.{MOST_BUDGET}
use Rattle.omi_seat.specs.declared.worker.Worker.{Worker}
use Rattle.omi_seat.specs.Applied.{MayApply, WasTold}
use Rattle.omi_seat.specs.Behind.{CanStep}
use Rattle.omi_seat.specs.Known.{actor_known, claims_known, entry_known, finds}
use Rattle.omi_seat.specs.StepLog.{HasRoom, IsLogOf}

-- what operations of a kind tell: of the step, the seat before, the word that was found, and the seat after
abbrev pub Told : Type 0 → Type 1
Told V = Step (Unit {0}) → Me (Unit {0}) V → ℕ → Me (Unit {0}) V → Type 0

-- an operation of this kind tells that a team which the thread's step forks has at most one member more than the thread has claims
abbrev pub TellsSeats : {V : Type 0} → Told V → Me (Unit {0}) V → Known → Type 0
TellsSeats {V} told me k = (n : ℕ) (after : Me (Unit {0}) V) → WasTold told me n after
    → seats_of (entry_known k n).outcome ≤ claims_known k + 1

-- It may make the next step of the thread of which this is known, whose steps it keeps, with room for one more: the rule allows it an
-- operation of this kind on the step's word
pub record MayStep {X : Type 0} (p : Program) (l : Layout) (holds : State (Unit {0}) (List X) → Type 0)
    (id : TableId) (told : Told (List X)) (k : Known) (worker : Worker X) : Type 0 where
  pub log : IsLogOf p l k worker.log
  pub able : CanStep k.program k.layout.table (actor_known k)
  pub few : length k.found < MOST_BUDGET
  pub room : HasRoom 1 k worker.log
  pub may : MayApply holds id worker.seat.id worker.seat.me
      (next_of k.program k.layout.table (actor_known k)) told
  pub seats : TellsSeats told worker.seat.me k

-- One more step found some word, of which its seat was told so. The step is listed, this came of it, and it took the room of one step at most
pub record HasStepped {X : Type 0} (p : Program) (l : Layout) (told : Told (List X)) (k : Known)
    (old new : Worker X) (out : Outcome) : Type 0 where
  pub found : ℕ
  pub was_told : WasTold told old.seat.me found new.seat.me
  pub log : IsLogOf p l (finds found k) new.log
  pub came : out ≡ (entry_known k found).outcome
  pub room : (m : ℕ) → HasRoom (m + 1) k old.log → HasRoom m (finds found k) new.log
