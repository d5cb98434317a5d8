-- Every live object has a generation below 2^32.
use Rattle.std.proofs.Common.{◌<◌, ◌^◌, ℕ, List, arith}
use Rattle.omi_script.specs.declared.program.Program.{Program}
use Rattle.omi_model.specs.declared.event.Event.{Event}
use Rattle.omi_model.specs.declared.id.Rid.{Rid}
use Rattle.omi_model.specs.declared.id.Tid.{Tid}
use Rattle.omi_model.specs.declared.region.Region.{Region}
use Rattle.omi_model.specs.declared.task.Task.{Task}
use Rattle.omi_model.specs.Fresh.{IsFresh}
use Rattle.omi_model.specs.Opening.{opening}
use Rattle.omi_model.specs.Reached.{Reached, Step}
use Rattle.omi_model.specs.State.{State}
use Rattle.omi_model.proofs.EachObject.{EachRegion, EachTask, over_events, region_step, task_step}
use Rattle.omi_model.proofs.OpeningObjects.{each_first_region, each_first_task}
use Rattle.omi_rule_words.proofs.MadeMembers.{all_at}

abbrev TaskBelow : Tid → Task → Type 0
TaskBelow k t = k.0.generation < 2 ^ 32

abbrev RegionBelow : Rid → Region → Type 0
RegionBelow n r = n.0.generation < 2 ^ 32

pub record AreBelow (s : State) : Type 0 where
  pub tasks : EachTask TaskBelow s
  pub regions : EachRegion RegionBelow s

below_step : (p : Program) (s : State) (i : ℕ) (e : Event) (next : State) → Step p s i e next → AreBelow s
    → AreBelow next
below_step p s i e next step all = record {
  tasks = task_step p TaskBelow s i e next step (λ k t y ys is taken h. h)
      (λ middle y listed stays each. record {
        frees = λ k t free how h. h;
        shows = λ k t enter h. h;
        tools = λ k t x h. h;
        groups = λ k t n is how h. h;
        sets = λ k t icv value v is of h. h;
        begins = λ k t waiting mine of h. h;
        finishes = λ k t is over h. h;
        starts = λ k u j t x is live explicit deferred may same of h. h;
        members = λ region team f k t r is found may made same of j m at. (all_at (λ (x : Tid × ℕ). IsFresh middle.tasks i x.0.0) team may.tasks_new j m at).below;
        deferred = λ task f final seen k t is same fresh. fresh.below;
        made = λ task f final k t is same fresh of. fresh.below;
      }) all.tasks;
  regions = region_step p RegionBelow s i e next step
      (λ middle listed stays. record {
        arrives = λ k t r is found h. h;
        releases = λ k t r is found may h. h;
        ends = λ k t r is found implicit other h. h;
        joins = λ k t r is found may h. h;
        forks = λ region team f k t r is found may new. may.region_new.below;
      }) all.regions;
}

pub generations_below : (p : Program) (events : List (ℕ × Event)) (s : State) → Reached p events s
    → AreBelow s
generations_below p events s reached =
    over_events p AreBelow (λ u i e next step h. below_step p u i e next step h) (opening p) events s reached
    (record { tasks = each_first_task p TaskBelow (omega arith); regions = each_first_region p RegionBelow (omega arith) })
