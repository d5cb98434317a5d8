-- The item that closes a task's list is the last one: the finish of an explicit task, the join of member 0, the end of another member, and the end of the program in the initial task. A task that is finished has an empty list.
use Rattle.std.proofs.Common.{◌≡◌, ◌==◌, ◌⊎◌, inl, inr, ℕ, ◌+◌, Bool, true, false, List, [], ◌∷◌, Option, Some, None, if◌then◌else◌, refl, sym, ap, ◌∙◌, subst}
use Rattle.omi_script.specs.declared.program.Program.{Program}
use Rattle.omi_model.specs.declared.encounter.Encounter.{Encounter}
use Rattle.omi_model.specs.declared.event.Event.{Event}
use Rattle.omi_model.specs.declared.event.Event.TheVariants as event
use Rattle.omi_model.specs.declared.id.Tid.{Tid}
use Rattle.omi_model.specs.declared.item.Item.{Item}
use Rattle.omi_model.specs.declared.item.Item.TheVariants as item
use Rattle.omi_model.specs.declared.progress.Progress.TheVariants.{Begun, Deferred, Finished, NotBegun}
use Rattle.omi_model.specs.declared.task.Task.{Task}
use Rattle.omi_model.specs.Changes.{IsCurrent, ahead_of, encounter, in_front}
use Rattle.omi_model.specs.LawLists.{IsListRight}
use Rattle.omi_model.specs.Lists.{fits, stays, take_item}
use Rattle.omi_model.specs.Opening.{opening}
use Rattle.omi_model.specs.Reached.{Reached, Step}
use Rattle.omi_model.specs.Rows.{last_of_member}
use Rattle.omi_model.specs.State.{State, task_of}
use Rattle.omi_model.specs.Tasking.{MayStartAt, deferred_task, scheduled}
use Rattle.omi_model.specs.Teams.{member_task}
use Rattle.omi_model.proofs.ChainsKept.{current_begun}
use Rattle.omi_model.proofs.EachObject.{EachTask, IsTaskLaw, is_end, start_list, task_step_from}
use Rattle.omi_model.proofs.members.FirstLists.{first_lists}
use Rattle.omi_model.proofs.LastItems.{Closes, main_closes, member_closes, start_closes, stays_closes, take_closes, task_closes}
use Rattle.omi_model.proofs.ListLaws.{take_fits, by_taken}
use Rattle.omi_model.proofs.OpeningObjects.{each_first_task}
use Rattle.omi_model.proofs.ReachedStates.{over_reached}
use Rattle.omi_model.proofs.Slots.{false_true}
use Rattle.omi_model.proofs.Steps.{IsMove, IsRelisted, is_relisted, move_of, moved_on, relisted}

-- it is this one
abbrev pub IsIt : Item → Item → Type 0
IsIt z x = z ≡ x

-- an event that ends its task takes the last item
end_takes_last : (z : Item) (at : Encounter) (e : Event) (y : Item) (ys : List Item) → is_end e ≡ true
    → fits e y ≡ true → Closes (IsIt z) (y ∷ ys) → stays at e y ys ≡ []
end_takes_last z at (event.ImplicitEnd task) item.ImplicitEnd ys over fit h = h.1
end_takes_last z at (event.Join region) item.Join ys over fit h = h.1
end_takes_last z at (event.Finish task) item.Finish ys over fit h = h.1
end_takes_last z at (event.ImplicitEnd task) y ys over fit h = absurd (false_true fit)
end_takes_last z at (event.Join region) y ys over fit h = absurd (false_true fit)
end_takes_last z at (event.Finish task) y ys over fit h = absurd (false_true fit)
end_takes_last z at e y ys over fit h = absurd (false_true over)

-- an item that closes a list
abbrev pub is_closing : Item → Bool
is_closing item.ImplicitEnd = true
is_closing item.Join = true
is_closing item.Done = true
is_closing item.Finish = true
is_closing x = false

closing_item : (e : Event) (y : Item) → is_end e ≡ true → fits e y ≡ true → is_closing y ≡ true
closing_item (event.ImplicitEnd task) item.ImplicitEnd over fit = refl
closing_item (event.Join region) item.Join over fit = refl
closing_item (event.Finish task) item.Finish over fit = refl
closing_item (event.ImplicitEnd task) y over fit = absurd (false_true fit)
closing_item (event.Join region) y over fit = absurd (false_true fit)
closing_item (event.Finish task) y over fit = absurd (false_true fit)
closing_item e y over fit = absurd (false_true over)

start_item : (k : Tid) (t u : Task) (x : Item) → MayStartAt x k t u → is_closing x ≡ false
start_item k t u (item.Tasks state) may = refl
start_item k t u item.OneTask may = refl
start_item k t u x may = absurd may

-- ---- the closing item of each task

abbrev pub closing_of : Bool → Option Tid → ℕ → Item
closing_of false generating number = item.Finish
closing_of true None number = item.Done
closing_of true (Some k) number = last_of_member number

abbrev pub IsClosed : Task → Type 0
IsClosed t = Closes (IsIt (closing_of t.implicit t.generating t.number)) t.list

pub record HasLastItem (t : Task) : Type 0 where
  pub closes : IsClosed t
  pub finished : t.progress ≡ Finished → t.list ≡ []

begun_finished : Begun ≡ Finished → ⊥
begun_finished e = cc

deferred_finished : Deferred ≡ Finished → ⊥
deferred_finished e = cc

waits_finished : (b : Bool) → (if b then Begun else NotBegun) ≡ Finished → ⊥
waits_finished true e = cc
waits_finished false e = cc

module _ (p : Program) (events : List (ℕ × Event)) (s : State) (reached : Reached p events s) (i : ℕ)
    (e : Event) (next : State) (step : Step p s i e next) (all : EachTask (λ k t. HasLastItem t) s) where
  m : IsMove p s i e next
  m = move_of p s i e next step

  record IsLastTaken (k : Tid) (t : Task) : Type 0 where
    pub is : HasLastItem t
    pub over : (s.threads i).current ≡ Some k → is_end e ≡ true → t.list ≡ []

  still : (k : Tid) (t : Task) → ((s.threads i).current ≡ Some k → ⊥) → HasLastItem t → IsLastTaken k t
  still k t ne h = record { is = h; over = λ name over. absurd (ne name) }

  last_taken : EachTask IsLastTaken next
  last_taken =
      task_step_from p (λ k t. HasLastItem t) IsLastTaken s i e next m moves
      (λ k t ne live h. still k t ne h) law all
    where
      moves : (k : Tid) (t : Task) → IsCurrent s i k t
          → take_item p (encounter s i) e (in_front t.frees t.list) ≡ Some (m.item, m.behind) → HasLastItem t
          → IsLastTaken k (relisted (stays (encounter s i) e m.item m.behind) t)
      moves k t is taken h =
          let z = closing_of t.implicit t.generating t.number in
          let closes = by_taken p (encounter s i) e t.frees t.list m.item m.behind (λ f y ys. Closes (IsIt z) (y ∷ ys)) taken
          (λ from. take_closes (IsIt z) p (encounter s i) e t.list m.item m.behind from h.closes) (λ task n. h.closes) in
          record {
            is = record { closes = stays_closes (IsIt z) (encounter s i) e m.item m.behind closes; finished = λ f. absurd (begun_finished (sym (current_begun p events s reached i k t is.name is.live).0 ∙ f)) };
            over = λ name over. end_takes_last z (encounter s i) e m.item m.behind over (take_fits p (encounter s i) e (in_front t.frees t.list) m.item m.behind taken) closes;
          }

      before : IsRelisted s (moved_on s i e m.item m.behind)
      before = is_relisted s i (stays (encounter s i) e m.item m.behind)

      -- a task that is not current, and not finished
      other : (k : Tid) (t : Task) → ((s.threads i).current ≡ Some k → is_end e ≡ true → t.list ≡ [])
          → IsClosed t → (t.progress ≡ Finished → ⊥) → IsLastTaken k t
      other k t over closes un = record { is = record { closes = closes; finished = λ f. absurd (un f) }; over = over }

      law : EachTask IsLastTaken (moved_on s i e m.item m.behind)
          → IsTaskLaw p (moved_on s i e m.item m.behind) i e m.item next IsLastTaken
      law of_tasks = record {
        frees = λ k t free how q. record { is = record { closes = q.is.closes; finished = q.is.finished }; over = q.over };
        shows = λ k t x q. record { is = record { closes = q.is.closes; finished = q.is.finished }; over = q.over };
        tools = λ k t x q. record { is = record { closes = q.is.closes; finished = q.is.finished }; over = q.over };
        groups = λ k t count is how q. record { is = record { closes = q.is.closes; finished = q.is.finished }; over = q.over };
        sets = λ k t icv value v f at_set q. record { is = record { closes = q.is.closes; finished = q.is.finished }; over = q.over };
        begins = λ k t waits mine by q. other k (record t { progress = Begun }) q.over q.is.closes begun_finished;
        finishes = λ k t is over q. let none = q.over (sym (before.currents i) ∙ is.name) over in record { is = record { closes = q.is.closes; finished = λ f. none }; over = q.over };
        starts = λ k u j t x is live ex de may of by q. other k _ (λ name over. absurd (no_end x of (start_item j t u x may) over)) (started u ex x (encounter (moved_on s i e m.item m.behind) i) t.number q.is.closes) begun_finished;
        members = λ region team f k t r is found may new of by j n at.
            other n.0 (member_task p region k t r f j n.1)
            (λ name over. absurd (no_end (item.Fork f) of refl over))
            (member_closes (IsIt (last_of_member j)) p (record { debug = p.env.debug; number = j; level = r.levels + 1; is_final = false }) f refl) (waits_finished (j == 0));
        deferred = λ task f final seen k t is of fresh. other task (deferred_task p k t f final seen) (λ name over. absurd (no_end (item.Defer seen f final) of refl over)) (task_closes (IsIt item.Finish) p refl f) deferred_finished;
        made = λ task f final k t is of fresh by. other task (scheduled i k t (deferred_task p k t f final 0)) (λ name over. absurd (no_end_now f final of over)) (task_closes (IsIt item.Finish) p refl f) begun_finished;
      }
        where
          no_end : (x : Item) → m.item ≡ x → is_closing x ≡ false → is_end e ≡ true → ⊥
          no_end x of plain over =
              false_true
              (sym plain ∙ (ap is_closing (sym of) ∙ closing_item e m.item over (take_fits p (encounter s i) e (ahead_of s i) m.item m.behind m.taken)))

          no_end_now : (f : ℕ) (final : Bool)
              → (m.item ≡ item.StartNow f final) ⊎ ((seen : ℕ) × (m.item ≡ item.Defer seen f final))
              → is_end e ≡ true → ⊥
          no_end_now f final (inl of) over = no_end (item.StartNow f final) of refl over
          no_end_now f final (inr (seen, of)) over = no_end (item.Defer seen f final) of refl over

          started : (u : Task) → u.implicit ≡ false → (x : Item) (at : Encounter) (number : ℕ) → IsClosed u
              → Closes (IsIt (closing_of u.implicit u.generating number)) (start_list x at u.list)
          started u ex x at number h =
              let explicit : closing_of u.implicit u.generating u.number ≡ closing_of u.implicit u.generating number =
              ap (λ b. closing_of b u.generating u.number) ex
              ∙ sym (ap (λ b. closing_of b u.generating number) ex) in
              start_closes (IsIt (closing_of u.implicit u.generating number)) x at u.list
              (subst (λ z. Closes (IsIt z) u.list) explicit h)

  pub last_step : EachTask (λ k t. HasLastItem t) next
  last_step k t live = (last_taken k t live).is

pub last_items : (p : Program) (events : List (ℕ × Event)) (s : State) → Reached p events s
    → EachTask (λ k t. HasLastItem t) s
last_items p events s reached =
    over_reached p (λ u. EachTask (λ k t. HasLastItem t) u)
    (λ first u first_reached i e next step h. last_step p first u first_reached i e next step h) []
    (opening p) refl events s reached
    (each_first_task p (λ k t. HasLastItem t) (record { closes = main_closes (IsIt item.Done) p refl (record { debug = p.env.debug; number = 0; level = 0; is_final = false }); finished = λ f. absurd (begun_finished f) }))

pub lists_right : (p : Program) (events : List (ℕ × Event)) (s : State) → Reached p events s
    → (k : Tid) (t : Task) → task_of s k ≡ Some t → IsListRight p s t
lists_right p events s reached k t live =
    let first = first_lists p events s reached k t live in
    record { deferred = first.deferred; waiting = first.waiting; finished = (last_items p events s reached k t live).finished }
