-- The implicit tasks of a region run its function.
use Rattle.std.proofs.Common.{◌≡◌, ℕ, true, List, Some, refl, ap, ◌∙◌}
use Rattle.omi_script.specs.declared.program.Program.{Program}
use Rattle.omi_model.specs.declared.event.Event.{Event}
use Rattle.omi_model.specs.declared.id.Tid.{Tid}
use Rattle.omi_model.specs.declared.region.Region.{Region}
use Rattle.omi_model.specs.declared.task.Task.{Task}
use Rattle.omi_model.specs.Opening.{opening, opening_region}
use Rattle.omi_model.specs.Reached.{Reached, Step}
use Rattle.omi_model.specs.State.{State, region_of, task_of}
use Rattle.omi_model.specs.Teams.{new_region}
use Rattle.omi_model.proofs.EachObject.{EachTask, over_events, task_step}
use Rattle.omi_model.proofs.OpeningObjects.{each_first_task}
use Rattle.omi_model.proofs.Slots.{some_same}
use Rattle.omi_model.proofs.StaysKept.{needed_region, stays_step}

abbrev RunsFunction : State → Tid → Task → Type 0
RunsFunction s k t =
    t.implicit ≡ true → (r : Region) × (region_of s t.region ≡ Some r) × (r.function ≡ t.function)

runs_step : (p : Program) (s : State) (i : ℕ) (e : Event) (next : State) → Step p s i e next
    → EachTask (RunsFunction s) s → EachTask (RunsFunction next) next
runs_step p s i e next step all = task_step p (RunsFunction next) s i e next step (λ k t y ys is taken h. h)
    (λ middle y listed stays each. record {
      frees = λ k t free how h. h;
      shows = λ k t enter h. h;
      tools = λ k t x h. h;
      groups = λ k t n is how h. h;
      sets = λ k t icv value v is of h. h;
      begins = λ k t waiting mine of h. h;
      finishes = λ k t is over h. h;
      starts = λ k u j t x is live explicit deferred may same of h. h;
      members = λ region team f k t r is found may made same of j m at im. (new_region k t r team f, made, refl);
      deferred = λ task f final seen k t is same fresh im. absurd (cc im);
      made = λ task f final k t is same fresh of im. absurd (cc im);
    })
    (λ k t live im.
    let (r, found, same) = all k t live im in
    let (q, later, alike) = (stays_step p s i e next step).regions t.region r found (needed_region s k t live r) in
    (q, later, alike.function ∙ same))

pub member_function : (p : Program) (events : List (ℕ × Event)) (s : State) → Reached p events s
    → (k : Tid) (t : Task) (r : Region) → task_of s k ≡ Some t → t.implicit ≡ true
    → region_of s t.region ≡ Some r → r.function ≡ t.function
member_function p events s reached k t r live im found =
    let (q, there, same) = over_events p (λ z. EachTask (RunsFunction z) z) (λ z i e next step h. runs_step p z i e next step h) (opening p) events s reached
    (each_first_task p (RunsFunction (opening p)) (λ im. (opening_region p, refl, refl))) k t live im in
    ap (λ (x : Region). x.function) (some_same found there) ∙ same
