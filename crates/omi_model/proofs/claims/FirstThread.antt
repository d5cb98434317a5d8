-- Thread 0 has a task in the next state, where it runs no member but member 0.
use Rattle.std.proofs.Common.{◌≡◌, ◌≢◌, ℕ, true, false, List, [], ◌∷◌, map, Option, Some, None, is_some, refl, sym, ap, ◌∙◌, subst}
use Rattle.std.specs.Prelude.{IsSome}
use Rattle.omi_script.specs.declared.program.Program.{Program}
use Rattle.omi_model.specs.declared.event.Event.{Event}
use Rattle.omi_model.specs.declared.event.Event.TheVariants as event
use Rattle.omi_model.specs.declared.freeable.Freeable.{Freeable}
use Rattle.omi_model.specs.declared.id.Rid.{Rid}
use Rattle.omi_model.specs.declared.id.Tid.{Tid}
use Rattle.omi_model.specs.declared.item.Item.{Item}
use Rattle.omi_model.specs.declared.item.Item.TheVariants as item
use Rattle.omi_model.specs.declared.progress.Progress.TheVariants.{Begun, Deferred, NotBegun}
use Rattle.omi_model.specs.declared.region.Region.{Region}
use Rattle.omi_model.specs.declared.task.Task.{Task}
use Rattle.omi_model.specs.declared.thread.Thread.{Thread}
use Rattle.omi_model.specs.Changes.{IsCurrent, encounter}
use Rattle.omi_model.specs.LawStays.{Stays, is_free}
use Rattle.omi_model.specs.Lists.{fits, take_item}
use Rattle.omi_model.specs.Opening.{opening}
use Rattle.omi_model.specs.Reached.{Reached, Step}
use Rattle.omi_model.specs.State.{State, region_of}
use Rattle.omi_model.specs.Teams.{master_of}
use Rattle.omi_model.proofs.ChainsKept.{current_begun}
use Rattle.omi_model.proofs.members.ClosingItems.{IsIt, closing_of, last_items}
use Rattle.omi_model.proofs.LastItems.{Closes, take_closes}
use Rattle.omi_model.proofs.EachObject.{EachTask, IsTaskLaw, ahead_of_current, task_step}
use Rattle.omi_model.proofs.EachThread.{EachThread, IsThreadLaw, law_of_current, thread_step}
use Rattle.omi_model.proofs.ListLaws.{take_fits, taken_other}
use Rattle.omi_model.proofs.MembersKnown.{members_known}
use Rattle.omi_model.proofs.OpeningObjects.{each_first_task}
use Rattle.omi_model.proofs.ReachedStates.{over_reached}
use Rattle.omi_model.proofs.Slots.{false_true}
use Rattle.omi_model.proofs.Steps.{IsMove, IsRelisted, move_of, relisted_to}

-- ---- an explicit task that has started is scheduled from one

abbrev pub HasScheduling : Tid → Task → Type 0
HasScheduling k t = t.implicit ≡ false → (t.progress ≡ Deferred → ⊥) → (n : Tid) × (t.scheduling ≡ Some n)

waits_not : (t : Task) → t.progress ≡ NotBegun → t.progress ≡ Deferred → ⊥
waits_not t a d = cc

begun_deferred : Begun ≡ Deferred → ⊥
begun_deferred e = cc

scheduling_step : (p : Program) (events : List (ℕ × Event)) (s : State) → Reached p events s
    → (i : ℕ) (e : Event) (next : State) → Step p s i e next → EachTask HasScheduling s
    → EachTask HasScheduling next
scheduling_step p events s reached i e next step all =
    task_step p HasScheduling s i e next step (λ k t y ys is taken q. q) law all
  where
    law : (middle : State) (y : Item) → IsRelisted s middle → Stays middle next
        → EachTask HasScheduling middle → IsTaskLaw p middle i e y next HasScheduling
    law middle y before later of_tasks = record {
      frees = λ k t free how q. q;
      shows = λ k t x q. q;
      tools = λ k t x q. q;
      groups = λ k t count is how q. q;
      sets = λ k t icv value v f at_set q. q;
      begins = λ k t waits mine by q ex un. q ex (waits_not t waits);
      finishes = λ k t is over q ex un. q ex (current k t is);
      starts = λ k u j t x is live ex de may of by q ex' un. (j, refl);
      members = λ region team f k t r is found may new of by j m at ex. absurd (false_true (sym ex));
      deferred = λ task f final seen k t is of fresh ex un. absurd (un refl);
      made = λ task f final k t is of fresh by ex un. (k, refl);
    }
      where
        current : (k : Tid) (t : Task) → IsCurrent middle i k t → t.progress ≡ Deferred → ⊥
        current k t is d =
            let (v, xs, live, same) = before.tasks k t is.live in
            begun_deferred
            (sym (current_begun p events s reached i k v (sym (before.currents i) ∙ is.name) live).0 ∙ (ap (λ (x : Task). x.progress) (sym same) ∙ d))

pub have_scheduling : (p : Program) (events : List (ℕ × Event)) (s : State) → Reached p events s
    → EachTask HasScheduling s
have_scheduling p events s reached =
    over_reached p (EachTask HasScheduling)
    (λ first u first_reached i e next step h. scheduling_step p first u first_reached i e next step h) []
    (opening p) refl events s reached
    (each_first_task p HasScheduling (λ ex. absurd (false_true (sym ex))))

-- ---- thread 0

abbrev pub HasTask : ℕ → Thread → Type 0
HasTask j h = j ≡ 0 → IsSome h.current

-- a member other than member 0 runs on another thread
abbrev pub RunsElsewhere : Tid → Task → Type 0
RunsElsewhere k t = t.implicit ≡ true → t.number ≢ 0 → t.thread ≢ 0

done_join : item.Done ≡ item.Join → ⊥
done_join e = cc

join_only : (region : Rid) (y : Item) → fits (event.Join region) y ≡ true → y ≡ item.Join
join_only region item.Join fit = refl
join_only region y fit = absurd (false_true fit)

module _ (p : Program) (events : List (ℕ × Event)) (s : State) (reached : Reached p events s) (i : ℕ)
    (e : Event) (next : State) (step : Step p s i e next) where
  abbrev m : IsMove p s i e next
  m = move_of p s i e next step

  -- the region that is joined was encountered
  pub encountered : (k : Tid) (t : Task) (r : Region) → IsCurrent s i k t → t.implicit ≡ true
      → region_of s t.region ≡ Some r → (n : Rid) → e ≡ event.Join n → IsSome r.encountering
  encountered k t r is im found n of = go r.encountering refl
    where
      taken : take_item p (encounter s i) e t.list ≡ Some (m.item, m.behind)
      taken =
          taken_other p (encounter s i) e t.frees t.list (m.item, m.behind) (ap is_free of)
          (ap (take_item p (encounter s i) e) (sym (ahead_of_current s i k t is)) ∙ m.taken)

      joins : m.item ≡ item.Join
      joins =
          join_only n m.item
          (subst (λ (x : Event). fits x m.item ≡ true) of (take_fits p (encounter s i) e t.list m.item m.behind taken))

      go : (o : Option Tid) → r.encountering ≡ o → IsSome o
      go (Some h) met = refl
      go None none =
          let generating : t.generating ≡ None =
          ((members_known p events s reached).encountered k t is.live).generating im r found ∙ none in
          let z : closing_of t.implicit t.generating t.number ≡ item.Done =
          ap (λ b. closing_of b t.generating t.number) im ∙ ap (λ o. closing_of true o t.number) generating in
          let closes : Closes (IsIt item.Done) (m.item ∷ m.behind) =
          subst (λ x. Closes (IsIt x) (m.item ∷ m.behind)) z
          (take_closes (IsIt (closing_of t.implicit t.generating t.number)) p (encounter s i) e t.list m.item m.behind taken (last_items p events s reached k t is.live).closes) in
          absurd (done_join (subst (λ x. Closes (IsIt item.Done) (x ∷ m.behind)) joins closes).0)

  pub first_step : EachTask RunsElsewhere s → EachThread HasTask s → EachThread HasTask next
  first_step elsewhere all = thread_step p HasTask s i e next step (λ y ys none taken q. q) law all
    where
      law : (middle : State) → IsRelisted s middle → Stays middle next → EachThread HasTask middle
          → IsThreadLaw p middle i e next HasTask
      law middle before later of_threads = law_of_current p middle i e next HasTask (record {
        forks = λ region team f k t r is found may new q first. some_first team _ may.threads;
        joins_team = λ task may of q first. refl;
        ends = λ k t r is found im other over q first. absurd (elsewhere_current k t is im other first);
        joins = λ k t r is found may of q first.
            let (v, xs, cur, same) = was k t is in
            encountered k v r cur (ap (λ (x : Task). x.implicit) (sym same) ∙ may.implicit) (ap (λ (x : Task). region_of s x.region) (sym same) ∙ (sym (before.regions t.region) ∙ found)) t.region of;
        makes = λ task f final k t is new q first. refl;
        starts = λ task x k t is may new q first. refl;
        finishes = λ k t is ex over q first.
            let (v, xs, cur, same) = was k t is in
            let (n, from) =
            have_scheduling p events s reached k v cur.live (ap (λ (x : Task). x.implicit) (sym same) ∙ ex)
            (λ d. begun_deferred (sym (current_begun p events s reached i k v cur.name cur.live).0 ∙ d)) in
            ap is_some (ap (λ (x : Task). x.scheduling) same ∙ from);
      })
        where
          was : (k : Tid) (t : Task) → IsCurrent middle i k t
              → (v : Task) × (xs : Option Freeable × List Item) × IsCurrent s i k v × (t ≡ relisted_to xs v)
          was k t is =
              let (v, xs, live, same) = before.tasks k t is.live in
              let current : IsCurrent s i k v = record { name = sym (before.currents i) ∙ is.name; live = live } in
              (v, xs, current, same)

          some_first : (team : List (Tid × ℕ)) (xs : List ℕ) → map (λ m. m.1) team ≡ i ∷ xs
              → IsSome (master_of team)
          some_first [] xs same = cc
          some_first (a ∷ team) xs same = refl

          elsewhere_current : (k : Tid) (t : Task) → IsCurrent middle i k t → t.implicit ≡ true → t.number ≢ 0
              → i ≡ 0 → ⊥
          elsewhere_current k t is im other first =
              let (v, xs, cur, same) = was k t is in
              elsewhere k v cur.live (ap (λ (x : Task). x.implicit) (sym same) ∙ im)
              (λ z. other (ap (λ (x : Task). x.number) same ∙ z))
              ((current_begun p events s reached i k v cur.name cur.live).1 ∙ first)
