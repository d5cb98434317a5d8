-- The list of a task that has not begun is its first list.
use Rattle.std.proofs.Common.{◌≡◌, ◌==◌, ℕ, Bool, true, false, List, [], Some, if◌then◌else◌, refl, sym, ap, ◌∙◌}
use Rattle.omi_script.specs.declared.program.Program.{Program}
use Rattle.omi_model.specs.declared.event.Event.{Event}
use Rattle.omi_model.specs.declared.id.Tid.{Tid}
use Rattle.omi_model.specs.declared.progress.Progress.TheVariants.{Begun, Deferred, Finished, NotBegun}
use Rattle.omi_model.specs.declared.region.Region.{Region}
use Rattle.omi_model.specs.declared.task.Task.{Task}
use Rattle.omi_model.specs.LawLists.{HasMemberList}
use Rattle.omi_model.specs.Opening.{opening}
use Rattle.omi_model.specs.Reached.{Reached, Step}
use Rattle.omi_model.specs.Rows.{member_items, task_items}
use Rattle.omi_model.specs.State.{State, region_of, task_of}
use Rattle.omi_model.proofs.ChainsKept.{current_begun}
use Rattle.omi_model.proofs.EachObject.{EachTask, IsTaskLaw, task_step_from}
use Rattle.omi_model.proofs.OpenNames.{open_names}
use Rattle.omi_model.proofs.OpeningObjects.{each_first_task}
use Rattle.omi_model.proofs.ReachedStates.{over_reached}
use Rattle.omi_model.proofs.Slots.{some_same}
use Rattle.omi_model.proofs.StaysKept.{stays_step}
use Rattle.omi_model.proofs.Steps.{IsMove, move_of, moved_on}

pub record HasFirstList (p : Program) (s : State) (t : Task) : Type 0 where
  pub deferred : t.progress ≡ Deferred → t.list ≡ task_items p t.function
  pub waiting : t.progress ≡ NotBegun → (r : Region) → region_of s t.region ≡ Some r → HasMemberList p r t

begun_deferred : Begun ≡ Deferred → ⊥
begun_deferred e = cc

begun_waits : Begun ≡ NotBegun → ⊥
begun_waits e = cc

deferred_waits : Deferred ≡ NotBegun → ⊥
deferred_waits e = cc

waits_deferred : (b : Bool) → (if b then Begun else NotBegun) ≡ Deferred → ⊥
waits_deferred true e = cc
waits_deferred false e = cc

-- a task that has begun
runs : (p : Program) (s : State) (t : Task) → t.progress ≡ Begun → HasFirstList p s t
runs p s t is = record { deferred = λ d. absurd (begun_deferred (sym is ∙ d)); waiting = λ w. absurd (begun_waits (sym is ∙ w)) }

over : (p : Program) (s : State) (t : Task) → t.progress ≡ Finished → HasFirstList p s t
over p s t is = record { deferred = λ d. absurd (finished_deferred (sym is ∙ d)); waiting = λ w. absurd (finished_waits (sym is ∙ w)) }
  where
    finished_deferred : Finished ≡ Deferred → ⊥
    finished_deferred e = cc

    finished_waits : Finished ≡ NotBegun → ⊥
    finished_waits e = cc

module _ (p : Program) (events : List (ℕ × Event)) (s : State) (reached : Reached p events s) (i : ℕ)
    (e : Event) (next : State) (step : Step p s i e next) (all : EachTask (λ k t. HasFirstList p s t) s) where
  m : IsMove p s i e next
  m = move_of p s i e next step

  still : (k : Tid) (t : Task) → task_of s k ≡ Some t → HasFirstList p s t → HasFirstList p next t
  still k t live h = record {
    deferred = h.deferred;
    waiting = λ w q found_q.
        let (r, found) = ((open_names p events s reached).tasks k t live).region in
        let same = (stays_step p s i e next step).alike_regions t.region r q found found_q in
        h.waiting w r found
        ∙ (ap (λ n. member_items p (record { debug = p.env.debug; number = t.number; level = n; is_final = false }) r.function) (sym same.levels)
        ∙ ap (λ f. member_items p (record { debug = p.env.debug; number = t.number; level = q.levels; is_final = false }) f) (sym same.function));
  }

  pub lists_step : EachTask (λ k t. HasFirstList p next t) next
  lists_step = task_step_from p (λ k t. HasFirstList p s t) (λ k t. HasFirstList p next t) s i e next m
      (λ k t is taken h. runs p next _ (current_begun p events s reached i k t is.name is.live).0)
      (λ k t ne live h. still k t live h) law all
    where
      law : EachTask (λ k t. HasFirstList p next t) (moved_on s i e m.item m.behind)
          → IsTaskLaw p (moved_on s i e m.item m.behind) i e m.item next (λ k t. HasFirstList p next t)
      law of_tasks = record {
        frees = λ k t free how q. record { deferred = q.deferred; waiting = q.waiting };
        shows = λ k t x q. record { deferred = q.deferred; waiting = q.waiting };
        tools = λ k t x q. record { deferred = q.deferred; waiting = q.waiting };
        groups = λ k t count is how q. record { deferred = q.deferred; waiting = q.waiting };
        sets = λ k t icv value v f at_set q. record { deferred = q.deferred; waiting = q.waiting };
        begins = λ k t waits mine by q. runs p next _ refl;
        finishes = λ k t is over' q. over p next _ refl;
        starts = λ k u j t x is live ex de may of by q. runs p next _ refl;
        members = λ region team f k t r is found may new of by j n at. record {
          deferred = λ d. absurd (waits_deferred (j == 0) d);
          waiting = λ w q found_q. ap (λ (x : Region). member_items p (record { debug = p.env.debug; number = j; level = x.levels; is_final = false }) x.function) (some_same new found_q);
        };
        deferred = λ task f final seen k t is of fresh. record { deferred = λ d. refl; waiting = λ w. absurd (deferred_waits w) };
        made = λ task f final k t is of fresh by. runs p next _ refl;
      }

pub first_lists : (p : Program) (events : List (ℕ × Event)) (s : State) → Reached p events s
    → EachTask (λ k t. HasFirstList p s t) s
first_lists p events s reached =
    over_reached p (λ u. EachTask (λ k t. HasFirstList p u t) u)
    (λ first u first_reached i e next step h. lists_step p first u first_reached i e next step h) []
    (opening p) refl events s reached
    (each_first_task p (λ k t. HasFirstList p (opening p) t) (runs p (opening p) _ refl))
