-- The workers of all threads: before their first steps, and what they leave behind their last ones.
use Rattle.std.specs.Prelude.{◌≡◌, ◌+◌, ◌++◌, ℕ, suc, List, [], ◌∷◌, length, map, Some, slice_get}
use Rattle.atomic_table.specs.Seated.{TableId}
use Rattle.atomic_table.specs.Table.{Joins, Splits, State}
use Rattle.omi_script.specs.declared.program.Program.{Program}
use Rattle.omi_layout.specs.declared.layout.Layout.{Layout}
use Rattle.omi_core.specs.declared.thread_run.ThreadRun.{ThreadRun}
use Rattle.omi_core.specs.RunSteps.{made_of}
use Rattle.omi_core.specs.Steps.{events_behind}
use Rattle.omi_seat.specs.declared.known.Known.{Known}
use Rattle.omi_seat.specs.declared.step_log.Kept.{Kept}
use Rattle.omi_seat.specs.declared.step_log.Kept.TheVariants as kept
use Rattle.omi_seat.specs.declared.step_log.StepLog.{StepLog}
use Rattle.omi_seat.specs.declared.worker.Worker.{Worker}
use Rattle.omi_seat.specs.declared.workers.Runner.{Runner}
use Rattle.omi_seat.specs.Known.{actor_known, own_steps, steps_known, untouched}
use Rattle.omi_seat.specs.Seats.{Seated, all_below, first_alone, without_first}
use Rattle.omi_seat.specs.StepLog.{HasRoom, IsLogOf}

-- ---- before their first steps

-- what is kept of a thread before its first step, with room for its budget
pub record IsReady (p : Program) (l : Layout) (budget : ℕ) (keeps : Kept) (log : StepLog) : Type 0 where
  pub log_of : IsLogOf p l (untouched p l log.thread) log
  pub room : HasRoom budget (untouched p l log.thread) log
  pub kept : log.kept ≡ keeps

-- a worker before its first step, whose seat knows this
pub record IsToBegin {X : Type 0} (p : Program) (l : Layout) (id : TableId) (budget : ℕ) (keeps : Kept)
    (x : X) (worker : Worker X) : Type 0 where
  pub table : worker.seat.table_id ≡ id
  pub knows : worker.seat.me ≡ (x ∷ [], [])
  pub ready : IsReady p l budget keeps worker.log

-- the workers of so many threads, the last one first, each with its part
abbrev pub AreToBegin : {X : Type 0} → Program → Layout → TableId → ℕ → Kept → (ℕ → X) → ℕ
    → List (Runner X) → Type 0
AreToBegin {X} p l id budget keeps part threads runners = (i : ℕ) (r : Runner X)
    → slice_get runners i ≡ Some r
    → IsToBegin p l id budget keeps (part r.worker.log.thread) r.worker
    × (r.worker.log.thread + i + 1 ≡ threads)

-- one seat knows the parts of so many threads, the last one first, and some more; and the rule lets the first part that it knows be split off
pub record IsToSplit {X : Type 0} (holds : State (Unit {0}) (List X) → Type 0) (threads : ℕ) (part : ℕ → X)
    (rest : List X) (me : Seated X) : Type 0 where
  pub knows : me ≡ (all_below part threads ++ rest, [])
  pub may : (id n : ℕ) → Splits holds id (all_below part (suc n) ++ rest)
      (without_first (all_below part (suc n) ++ rest)) (first_alone (all_below part (suc n) ++ rest))

-- ---- behind their last steps

-- a worker whose seat is at a table, knows one part, and holds no slot
pub record IsSeatedAt {X : Type 0} (id : TableId) (e : Runner X) : Type 0 where
  pub table : e.worker.seat.table_id ≡ id
  pub part : X
  pub knows : e.worker.seat.me ≡ (part ∷ [], [])

abbrev pub AreSeatedAt : {X : Type 0} → TableId → List (Runner X) → Type 0
AreSeatedAt {X} id all = (i : ℕ) (e : Runner X) → slice_get all i ≡ Some e → IsSeatedAt id e

-- the rule lets any seat take in what another one knows
abbrev pub MayJoin : {X : Type 0} → (State (Unit {0}) (List X) → Type 0) → Type 0
MayJoin {X} holds = (id : ℕ) (v : List X) (other : ℕ) (w : List X)
    → Joins holds id v other w (v ++ w) []

-- what a worker leaves is this
pub record IsLeft {X : Type 0} (e : Runner X) (r : ThreadRun) : Type 0 where
  pub steps : r.steps ≡ e.worker.log.steps
  pub until : r.until ≡ e.until
  pub made : r.made ≡ e.worker.log.made
  pub events : r.events ≡ e.worker.log.events
  pub actor : r.actor ≡ e.worker.log.actor

-- among these workers of so many threads, the last one first, that of this thread left this, and its seat knew this thread's part
pub record IsJoined {X : Type 0} (threads : ℕ) (all : List (Runner X)) (parts : List X) (thread : ℕ)
    (r : ThreadRun) : Type 0 where
  pub place : ℕ
  pub number : thread + place + 1 ≡ threads
  pub runner : Runner X
  pub there : slice_get all place ≡ Some runner
  pub left : IsLeft runner r
  pub part : X
  pub knows : runner.worker.seat.me ≡ (part ∷ [], [])
  pub taken_in : slice_get parts thread ≡ Some part

-- a seat has taken in the parts of the first threads, and this is what they left
pub record AreJoined {X : Type 0} (threads : ℕ) (all : List (Runner X)) (before now : List X)
    (runs : List ThreadRun) : Type 0 where
  pub parts : List X
  pub now_are : now ≡ before ++ parts
  pub many : length parts ≡ length runs
  pub each : (thread : ℕ) (r : ThreadRun) → slice_get runs thread ≡ Some r
      → IsJoined threads all parts thread r

-- ---- what is left of a thread

-- what is left of a thread of a program in a layout is what is known of it. Its steps are, where they are kept
pub record IsRunOfKnown (p : Program) (l : Layout) (keeps : Kept) (thread : ℕ) (k : Known) (r : ThreadRun)
    : Type 0 where
  pub own : k.thread ≡ thread
  pub program : k.program ≡ p
  pub layout : k.layout ≡ l
  pub steps : r.steps ≡ length (steps_known k)
  pub made : keeps ≡ kept.Steps → r.made.items ≡ map (made_of k.thread) (steps_known k)
  pub events : r.events.items ≡ events_behind 0 (own_steps k.thread (steps_known k))
  pub actor : r.actor ≡ actor_known k

-- This is all that is left of a run, or what is kept of it: the steps are left out, or it is the same
pub record IsKept (keeps : Kept) (whole r : ThreadRun) : Type 0 where
  pub steps : r.steps ≡ whole.steps
  pub until : r.until ≡ whole.until
  pub events : r.events ≡ whole.events
  pub actor : r.actor ≡ whole.actor
  pub same : keeps ≡ kept.Steps → r ≡ whole

pub record AreKept (keeps : Kept) (whole runs : List ThreadRun) : Type 0 where
  pub many : length whole ≡ length runs
  pub each : (i : ℕ) (w r : ThreadRun) → slice_get whole i ≡ Some w → slice_get runs i ≡ Some r
      → IsKept keeps w r
