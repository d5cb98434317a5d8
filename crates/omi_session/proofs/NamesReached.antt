-- In every reached state the generations of live objects have 32 bits: a fresh name has such a one, and no event changes a name.
use Rattle.std.proofs.Common.{◌^◌, ◌<◌, ℕ, arith}
use Rattle.omi_script.specs.declared.program.Program.{Program}
use Rattle.omi_model.specs.declared.event.Event.{Event}
use Rattle.omi_model.specs.declared.id.Rid.{Rid}
use Rattle.omi_model.specs.declared.id.Tid.{Tid}
use Rattle.omi_model.specs.declared.item.Item.{Item}
use Rattle.omi_model.specs.declared.region.Region.{Region}
use Rattle.omi_model.specs.declared.task.Task.{Task}
use Rattle.omi_model.specs.Fresh.{IsFresh}
use Rattle.omi_model.specs.Opening.{opening}
use Rattle.omi_model.specs.Reached.{Step}
use Rattle.omi_model.specs.State.{State}
use Rattle.omi_model.proofs.EachObject.{EachTask, EachRegion, IsTaskLaw, IsRegionLaw, task_step, region_step, over_events}
use Rattle.omi_model.proofs.OpeningObjects.{each_first_task, each_first_region}
use Rattle.omi_session.specs.NamesReached.{ReachedAreNames}
use Rattle.omi_session.proofs.ShownAnswers.{element_of_all}

abbrev TaskFits : Tid → Task → Type 0
TaskFits k t = k.0.generation < 2 ^ 32

abbrev RegionFits : Rid → Region → Type 0
RegionFits n r = n.0.generation < 2 ^ 32

task_law : (p : Program) (s : State) (i : ℕ) (e : Event) (y : Item) (next : State)
    → IsTaskLaw p s i e y next TaskFits
task_law p s i e y next = record {
  frees = λ k t free how h. h;
  shows = λ k t enter h. h;
  tools = λ k t x h. h;
  groups = λ k t count is how h. h;
  sets = λ k t icv value v is at h. h;
  begins = λ k t waits mine at h. h;
  finishes = λ k t is ends h. h;
  starts = λ k u j t x is live explicit waits may taken at h. h;
  members = λ region team f k t r is found may new taken at j m there.
      (element_of_all (λ (u : Tid × ℕ). IsFresh s.tasks i u.0.0) team j m may.tasks_new there).below;
  deferred = λ task f final seen k t is taken fresh. fresh.below;
  made = λ task f final k t is taken fresh at. fresh.below;
}

region_law : (p : Program) (s : State) (i : ℕ) (next : State) → IsRegionLaw p s i next RegionFits
region_law p s i next = record {
  arrives = λ k t r is found h. h;
  releases = λ k t r is found may h. h;
  ends = λ k t r is found implicit other h. h;
  joins = λ k t r is found may h. h;
  forks = λ region team f k t r is found may members. may.region_new.below;
}

record Fit (s : State) : Type 0 where
  pub tasks : EachTask TaskFits s
  pub regions : EachRegion RegionFits s

kept : (p : Program) (s : State) (i : ℕ) (e : Event) (next : State) → Step p s i e next → Fit s → Fit next
kept p s i e next step fit = record {
  tasks = task_step p TaskFits s i e next step (λ k t y ys is taken h. h) (λ middle y before later all. task_law p middle i e y next) fit.tasks;
  regions = region_step p RegionFits s i e next step (λ middle before later. region_law p middle i next) fit.regions;
}

pub reached_are_names : ReachedAreNames
reached_are_names = λ p events s reached.
    let fit = over_events p Fit (kept p) (opening p) events s reached
    (record { tasks = each_first_task p TaskFits (omega arith); regions = each_first_region p RegionFits (omega arith) }) in
    record { regions = λ n seen. fit.regions n seen.region seen.live; tasks = λ k seen. fit.tasks k seen.task seen.live }
