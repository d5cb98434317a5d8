-- The threads of a run behind their ends.
use Rattle.std.specs.Prelude.{◌≡◌, ◌+◌, ℕ, List, length, Option, Some, slice_get}
use Rattle.atomic_table.specs.Seated.{TableId}
use Rattle.omi_script.specs.declared.program.Program.{Program}
use Rattle.omi_layout.specs.declared.layout.Layout.{Layout}
use Rattle.omi_core.specs.declared.stop.Break.{Break}
use Rattle.omi_core.specs.declared.thread_run.ThreadRun.{ThreadRun}
use Rattle.omi_seat.specs.declared.step_log.Kept.{Kept}
use Rattle.omi_seat.specs.declared.workers.Runner.{Runner}
use Rattle.omi_seat.specs.Workers.{AreKept, IsRunOfKnown}
use Rattle.omi_live.specs.declared.known.Part.{Part}
use Rattle.omi_live.specs.Live.{IsLive}
use Rattle.omi_live.specs.Running.{thread_of}
use Rattle.omi_live.specs.Work.{HasWorked, IsAtWork}

-- a thread that made no further step
pub record HasEnded (p : Program) (l : Layout) (id : TableId) (budget : ℕ) (on : Option Break)
    (keeps : Kept) (thread : ℕ) (e : Runner Part) : Type 0 where
  pub part : Part
  pub own : thread_of part ≡ thread
  pub kept : e.worker.log.kept ≡ keeps
  pub work : IsAtWork p l id part e.worker
  pub worked : HasWorked budget on part e.until

abbrev pub HaveEnded : Program → Layout → TableId → ℕ → Option Break → Kept → ℕ
    → List (Runner Part) → Type 0
HaveEnded p l id budget on keeps threads all = (i thread : ℕ) (e : Runner Part)
    → slice_get all i ≡ Some e → thread + i + 1 ≡ threads
    → HasEnded p l id budget on keeps thread e

-- what is kept of it, where its part is known
pub record IsRunKnown (p : Program) (l : Layout) (budget : ℕ) (on : Option Break) (keeps : Kept)
    (thread : ℕ) (x : Part) (r : ThreadRun) : Type 0 where
  pub run : IsRunOfKnown p l keeps thread x.known r
  pub worked : HasWorked budget on x r.until

-- the runs of the first threads, whose parts one seat knows
pub record AreRunsKnown (p : Program) (l : Layout) (budget : ℕ) (on : Option Break) (keeps : Kept)
    (parts : List Part) (runs : List ThreadRun) : Type 0 where
  pub count : length parts ≡ length runs
  pub each : (i : ℕ) (r : ThreadRun) → slice_get runs i ≡ Some r
      → (x : Part) × (slice_get parts i ≡ Some x) × IsRunKnown p l budget on keeps i x r

-- these are the words of a run of threads, and this is what is kept of its threads
pub record IsLiveKept (p : Program) (l : Layout) (budget : ℕ) (on : Option Break) (keeps : Kept)
    (words : List ℕ) (runs : List ThreadRun) : Type 0 where
  pub whole : List ThreadRun
  pub live : IsLive p l budget on words whole
  pub are : AreKept keeps whole runs
