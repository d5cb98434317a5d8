-- The members of regions, by their numbers.
use Rattle.std.proofs.Common.{◌≡◌, ◌==◌, ◌≤◌, ◌+◌, ℕ, true, false, List, [], ◌∷◌, length, slice_get, slice_index, Option, Some, None, if◌then◌else◌, refl, sym, ap, ◌∙◌, subst, arith}
use Rattle.std.proofs.lemmas.List.{length-map, length-replicate, length-set}
use Rattle.omi_script.specs.declared.program.Program.{Program}
use Rattle.omi_model.specs.declared.event.Event.{Event}
use Rattle.omi_model.specs.declared.id.Tid.{Tid}
use Rattle.omi_model.specs.declared.item.Item.{Item}
use Rattle.omi_model.specs.declared.progress.Progress.TheVariants.{Begun, Deferred, Finished, NotBegun}
use Rattle.omi_model.specs.declared.region.Region.{Region}
use Rattle.omi_model.specs.declared.task.Task.{Task}
use Rattle.omi_model.specs.LawMembers.{AreMembersKnown, HasMembers, IsEncountered, IsMemberByNumber}
use Rattle.omi_model.specs.LawStays.{Stays}
use Rattle.omi_model.specs.Opening.{initial_region, opening, opening_region}
use Rattle.omi_model.specs.Reached.{Reached, Step}
use Rattle.omi_model.specs.State.{State, region_of, task_of}
use Rattle.omi_model.proofs.EachObject.{EachTask, IsRegionLaw, IsTaskLaw, law_of_lasting, over_events, region_step, task_step}
use Rattle.omi_model.proofs.OpeningObjects.{each_first_region, each_first_task}
use Rattle.omi_model.proofs.Slots.{false_true, some_same}
use Rattle.omi_model.proofs.StaysKept.{needed_region, stays_step}
use Rattle.omi_model.proofs.Steps.{IsRelisted}

-- the first of a team
pub first_at : {A : Type 0} (xs : List A) → 1 ≤ length xs → (x : A) × (slice_get xs 0 ≡ Some x)
first_at [] some = absurd (omega (arith, some))
first_at (x ∷ xs) some = (x, refl)

begun_waits : Begun ≡ NotBegun → ⊥
begun_waits e = cc

finished_waits : Finished ≡ NotBegun → ⊥
finished_waits e = cc

deferred_waits : Deferred ≡ NotBegun → ⊥
deferred_waits e = cc

-- member 0 does not wait
member_waits : (j : ℕ) → (if j == 0 then Begun else NotBegun) ≡ NotBegun → j ≡ 0 → ⊥
member_waits j w first = begun_waits (subst (λ n. (if n == 0 then Begun else NotBegun) ≡ NotBegun) first w)

pub members_step : (p : Program) (s : State) (i : ℕ) (e : Event) (next : State) → Step p s i e next
    → AreMembersKnown s → AreMembersKnown next
members_step p s i e next step known = record {
  regions = region_step p (λ n r. HasMembers r) s i e next step region_law known.regions;
  tasks = task_step p (IsMemberByNumber next) s i e next step (λ k t y ys is taken q. q) task_law
      (λ k t live implicit.
      let (r, found, at) = known.tasks k t live implicit in
      let (q, found_q, same) = (stays_step p s i e next step).regions t.region r found (needed_region s k t live r) in
      (q, found_q, ap (λ (team : List (Tid × ℕ)). slice_get team t.number) same.team ∙ at));
  encountered =
      task_step p (λ k t. IsEncountered next t) s i e next step
      (λ k t y ys is taken q. record { generating = q.generating; scheduling = q.scheduling; waiting = q.waiting }) met_law
      (λ k t live.
      let met = known.encountered k t live in
      record {
        generating = λ im q found_q. let (r, found, same) = was_met k t live im q found_q in met.generating im r found ∙ sym same;
        scheduling = λ im q found_q. let (r, found, same) = was_met k t live im q found_q in met.scheduling im r found ∙ ap (λ (o : Option Tid). if t.number == 0 then o else None) (sym same);
        waiting = met.waiting;
      });
}
  where
    -- a region of the next state that a task was in before
    was_met : (k : Tid) (t : Task) → task_of s k ≡ Some t → t.implicit ≡ true → (q : Region)
        → region_of next t.region ≡ Some q
        → (r : Region) × (region_of s t.region ≡ Some r) × (q.encountering ≡ r.encountering)
    was_met k t live im q found_q =
        let (r, found, at) = known.tasks k t live im in
        let (q', found_q', same) = (stays_step p s i e next step).regions t.region r found (needed_region s k t live r) in
        let one : q' ≡ q = some_same found_q' found_q in
        (r, found, ap (λ (x : Region). x.encountering) (sym one) ∙ same.encountering)

    met_law : (middle : State) (y : Item) → IsRelisted s middle → Stays middle next
        → EachTask (λ k t. IsEncountered next t) middle
        → IsTaskLaw p middle i e y next (λ k t. IsEncountered next t)
    met_law middle y relists later all = record {
      frees = λ k t free how q. record { generating = q.generating; scheduling = q.scheduling; waiting = q.waiting };
      shows = λ k t x q. record { generating = q.generating; scheduling = q.scheduling; waiting = q.waiting };
      tools = λ k t x q. record { generating = q.generating; scheduling = q.scheduling; waiting = q.waiting };
      groups = λ k t count is how q. record { generating = q.generating; scheduling = q.scheduling; waiting = q.waiting };
      sets = λ k t icv value v f at_set q. record { generating = q.generating; scheduling = q.scheduling; waiting = q.waiting };
      begins = λ k t waits mine by q. record { generating = q.generating; scheduling = q.scheduling; waiting = λ w. absurd (begun_waits w) };
      finishes = λ k t is over q. record { generating = q.generating; scheduling = q.scheduling; waiting = λ w. absurd (finished_waits w) };
      starts = λ k u j t x is live ex de may of by q. record { generating = λ im. absurd (false_true (sym ex ∙ im)); scheduling = λ im. absurd (false_true (sym ex ∙ im)); waiting = λ w. absurd (begun_waits w) };
      members = λ region team f k t r is found may new of by j m at. record {
        generating = λ im q found_q. ap (λ (x : Region). x.encountering) (some_same new found_q);
        scheduling = λ im q found_q. ap (λ (x : Region). if j == 0 then x.encountering else None) (some_same new found_q);
        waiting = λ w. (refl, member_waits j w);
      };
      deferred = λ task f final seen k t is of fresh. record { generating = λ im. absurd (false_true im); scheduling = λ im. absurd (false_true im); waiting = λ w. absurd (deferred_waits w) };
      made = λ task f final k t is of fresh by. record { generating = λ im. absurd (false_true im); scheduling = λ im. absurd (false_true im); waiting = λ w. absurd (begun_waits w) };
    }

    region_law : (middle : State) → IsRelisted s middle → Stays middle next
        → IsRegionLaw p middle i next (λ n r. HasMembers r)
    region_law middle before later = record {
      arrives = λ k t r is found q. record { some = q.some; arrivals = length-set r.arrivals t.number (slice_index r.arrivals t.number + 1) ∙ q.arrivals; ended = q.ended };
      releases = λ k t r is found may q. record { some = q.some; arrivals = q.arrivals; ended = q.ended };
      ends = λ k t r is found im other q. record { some = q.some; arrivals = q.arrivals; ended = length-set r.ended t.number true ∙ q.ended };
      joins = λ k t r is found may q. record { some = q.some; arrivals = q.arrivals; ended = q.ended };
      forks = λ region team f k t r is found may new.
          record {
            some = omega (arith, length-map team (λ (m : Tid × ℕ). m.1), ap (λ (xs : List ℕ). length xs) may.threads);
            arrivals = length-replicate (length team) 0;
            ended = length-replicate (length team) false;
          };
    }

    task_law : (middle : State) (y : Item) → IsRelisted s middle → Stays middle next
        → EachTask (IsMemberByNumber next) middle → IsTaskLaw p middle i e y next (IsMemberByNumber next)
    task_law middle y before later all = law_of_lasting p middle i e y next (IsMemberByNumber next) (record {
      starts = λ k u j t x is live ex de may of by q implicit. absurd (false_true (sym ex ∙ implicit));
      members = λ region team f k t r is found may new of by j m at implicit. (_, new, at);
      deferred = λ task f final seen k t is of fresh implicit. absurd (false_true implicit);
      made = λ task f final k t is of fresh by implicit. absurd (false_true implicit);
    })

pub members_known : (p : Program) (events : List (ℕ × Event)) (s : State) → Reached p events s
    → AreMembersKnown s
members_known p events s reached =
    over_events p AreMembersKnown (λ u i e next step h. members_step p u i e next step h)
    (opening p) events s reached
    (record {
      regions = each_first_region p (λ n r. HasMembers r) (record { some = omega arith; arrivals = refl; ended = refl });
      tasks = each_first_task p (IsMemberByNumber (opening p)) (λ implicit. (opening_region p, refl, refl));
      encountered = each_first_task p (λ k t. IsEncountered (opening p) t) (record {
        generating = λ im q found_q. ap (λ (x : Region). x.encountering) (some_same {o = region_of (opening p) initial_region} refl found_q);
        scheduling = λ im q found_q. ap (λ (x : Region). x.encountering) (some_same {o = region_of (opening p) initial_region} refl found_q);
        waiting = λ w. absurd (begun_waits w);
      });
    })

-- where the list of a thread has moved on, member 0 is still scheduled from the task that encountered its region
pub first_scheduled : (s middle : State) → AreMembersKnown s → IsRelisted s middle → (k : Tid) (t : Task) (r : Region)
    → task_of middle k ≡ Some t → t.implicit ≡ true → t.number ≡ 0 → region_of middle t.region ≡ Some r
    → t.scheduling ≡ r.encountering
first_scheduled s middle known before k t r live im zero_number found =
    let (w, xs, live', same) = before.tasks k t live in
    let met =
    (known.encountered k w live').scheduling (ap (λ (x : Task). x.implicit) (sym same) ∙ im) r
    (ap (λ (x : Task). region_of s x.region) (sym same) ∙ (sym (before.regions t.region) ∙ found)) in
    ap (λ (x : Task). x.scheduling) same
    ∙
    (met ∙ ap (λ n. if n == 0 then r.encountering else None) (ap (λ (x : Task). x.number) (sym same) ∙ zero_number))
