-- The threads of a run behind their ends.
use Rattle.std.specs.Prelude.{◌≡◌, ◌+◌, ℕ, List, ◌∷◌, length, Some, slice_get}
use Rattle.atomic_table.specs.Seated.{TableId}
use Rattle.omi_script.specs.declared.program.Program.{Program}
use Rattle.omi_layout.specs.declared.layout.Layout.{Layout}
use Rattle.omi_core.specs.declared.thread_run.ThreadRun.{ThreadRun}
use Rattle.omi_seat.specs.declared.step_log.Kept.{Kept}
use Rattle.omi_seat.specs.declared.workers.Runner.{Runner}
use Rattle.omi_seat.specs.Workers.{AreKept, IsRunOfKnown}
use Rattle.omi_park.specs.declared.known.InspectorPart.{InspectorPart}
use Rattle.omi_park.specs.declared.known.Part.{Part}
use Rattle.omi_park.specs.declared.known.Part.TheVariants as part
use Rattle.omi_park.specs.declared.known.WorkerPart.{WorkerPart}
use Rattle.omi_park.specs.declared.stopped.Stopped.{Stopped}
use Rattle.omi_park.specs.Parked.{IsParked}
use Rattle.omi_park.specs.Work.{HasWorked, IsAtWork}

-- a thread that made no further step
pub record HasEnded (p : Program) (l : Layout) (id : TableId) (budget : ℕ) (keeps : Kept) (thread : ℕ)
    (e : Runner Part) : Type 0 where
  pub part : WorkerPart
  pub own : part.known.thread ≡ thread
  pub kept : e.worker.log.kept ≡ keeps
  pub work : IsAtWork p l id part e.worker
  pub worked : HasWorked budget part e.until

abbrev pub HaveEnded : Program → Layout → TableId → ℕ → Kept → ℕ → List (Runner Part) → Type 0
HaveEnded p l id budget keeps threads all = (i thread : ℕ) (e : Runner Part) → slice_get all i ≡ Some e
    → thread + i + 1 ≡ threads → HasEnded p l id budget keeps thread e

-- what is kept of it, where its part is known
pub record IsRunKnown (p : Program) (l : Layout) (budget : ℕ) (keeps : Kept) (thread : ℕ) (x : WorkerPart)
    (r : ThreadRun) : Type 0 where
  pub run : IsRunOfKnown p l keeps thread x.known r
  pub worked : HasWorked budget x r.until

-- the runs of the first threads, whose parts one seat knows behind that of the inspector
pub record AreRunsKnown (p : Program) (l : Layout) (budget : ℕ) (keeps : Kept) (i : InspectorPart)
    (parts : List Part) (runs : List ThreadRun) : Type 0 where
  pub known : List Part
  pub parts_are : parts ≡ part.Inspector i ∷ known
  pub count : length known ≡ length runs
  pub each : (k : ℕ) (r : ThreadRun) → slice_get runs k ≡ Some r
      → (x : WorkerPart) × (slice_get known k ≡ Some (part.Worker x)) × IsRunKnown p l budget keeps k x r

-- these are the words and the stops of a run of threads, and this is what is kept of its threads
pub record IsParkedKept (p : Program) (l : Layout) (budget : ℕ) (keeps : Kept) (words : List ℕ)
    (runs : List ThreadRun) (stops : List Stopped) : Type 0 where
  pub whole : List ThreadRun
  pub parked : IsParked p l budget words whole stops
  pub are : AreKept keeps whole runs
