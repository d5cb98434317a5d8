-- What is asked about where the words that the callbacks tell show a state: the state as a whole, or the thread that has begun, the visible region or the visible task that is held.
use Rattle.std.specs.Prelude.{ℕ, List}
use Rattle.omi_calls.specs.Told.{Told}
use Rattle.omi_model.specs.declared.region.Region as region
use Rattle.omi_model.specs.declared.task.Task as task
use Rattle.omi_model.specs.State.{State}
use Rattle.omi_session.specs.Made.{thread_pair, region_pair, task_pair}
use Rattle.omi_session.specs.Shown.{OfState, HoldsThread, HoldsRegion, HoldsTask}
use Rattle.omi_icv.specs.declared.scoped.Scoped.{Scoped}
use Rattle.omi_icv.specs.declared.scoped.Scoped.TheVariants as scoped
use Rattle.omi_icv.specs.Records.{Handles}

pub data Subject : Type 0 where
  Space : Subject
  Thread : ℕ → Subject
  Parallel : region.Region → Subject
  Task : task.Task → Subject

-- this holds of each state that is shown and of what is asked about in it
abbrev pub OfScoped : Told → List ℕ → Handles → Scoped → (State → Subject → Type 0) → Type 0
OfScoped told w held scoped.Space Holds = OfState told w (λ s. Holds s Space)
OfScoped told w held (scoped.Thread t) Holds =
    OfState told w (λ s. (h : HoldsThread w s (held (thread_pair t))) → Holds s (Thread h.thread))
OfScoped told w held (scoped.Parallel r) Holds =
    OfState told w (λ s. (h : HoldsRegion w s (held (region_pair r)))
    → Holds s (Parallel h.seen.region))
OfScoped told w held (scoped.Task k) Holds =
    OfState told w (λ s. (h : HoldsTask w s (held (task_pair k))) → Holds s (Task h.seen.task))
