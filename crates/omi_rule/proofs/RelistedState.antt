-- The state in which the current task's list has moved on is well formed and within the layout, as the state before.
use Rattle.std.proofs.Common.{◌≡◌, ℕ, ◌⊎◌, inl, inr, Bool, true, false, List, Option, Some, None, get_or, refl, sym, ap, ◌∙◌, subst}
use mathlib.Core.Path.{fun_ext}
use Rattle.std.specs.Prelude.{IsSome, MatchBool}
use Rattle.std.specs.Option.{option_and_then, option_map}
use Rattle.omi_model.specs.declared.freeable.Freeable.{Freeable}
use Rattle.omi_model.specs.declared.id.Rid.{Rid}
use Rattle.omi_model.specs.declared.id.Tid.{Tid}
use Rattle.omi_model.specs.declared.item.Item.{Item}
use Rattle.omi_model.specs.declared.task.Task.{Task}
use Rattle.omi_model.specs.Changes.{on_task}
use Rattle.omi_model.specs.Put.{named}
use Rattle.omi_model.specs.State.{State, scheduling_of, task_of}
use Rattle.omi_model.specs.Visible.{HasStarted, IsVisibleRegion, IsVisibleTask}
use Rattle.omi_model.specs.WellFormed.{Ends, IsMember, IsTaskRight, IsWellFormed}
use Rattle.omi_model.proofs.Slots.{on_other, on_same, same_or_not, some_same}
use Rattle.omi_model.proofs.Steps.{relisted, relisted_to}
use Rattle.omi_layout.specs.Field.{tasks}
use Rattle.omi_rep.specs.Shows.{IsWithin}
use Rattle.omi_rule.proofs.NothingNew.{named_stays, none_on, within_stays}
use Rattle.omi_rule_words.specs.Groups.{AreOwnersLive}

module _ (s : State) (k : Tid) (zs : List Item) where
  abbrev u : State
  u = on_task s k (relisted zs)

  -- a task is live in both states or in none, and has changed in its list alone
  same_but_lists : (n : Tid)
      → (task_of u n ≡ task_of s n) ⊎ (task_of u n ≡ option_map (relisted zs) (task_of s n))
  same_but_lists n = go (same_or_not n.0 k.0)
    where
      go : (n.0 ≡ k.0) ⊎ (n.0 ≡ k.0 → ⊥)
          → (task_of u n ≡ task_of s n) ⊎ (task_of u n ≡ option_map (relisted zs) (task_of s n))
      go (inl same) =
          inr
          (ap (named u.tasks) same ∙ on_same s.tasks k.0 (relisted zs) ∙ ap (λ x. option_map (relisted zs) (named s.tasks x)) (sym same))
      go (inr other) = inl (on_other s.tasks k.0 (relisted zs) n.0 other)

  later : (n : Tid) (t : Task) → task_of s n ≡ Some t
      → (xs : Option Freeable × List Item) × (task_of u n ≡ Some (relisted_to xs t))
  later n t live = go (same_but_lists n)
    where
      go : (task_of u n ≡ task_of s n) ⊎ (task_of u n ≡ option_map (relisted zs) (task_of s n))
          → (xs : Option Freeable × List Item) × (task_of u n ≡ Some (relisted_to xs t))
      go (inl same) = ((t.frees, t.list), same ∙ live)
      go (inr moved) = ((None, zs), moved ∙ ap (option_map (relisted zs)) live)

  earlier : (n : Tid) (v : Task) → task_of u n ≡ Some v
      → (t : Task) × (xs : Option Freeable × List Item) × (task_of s n ≡ Some t) × (v ≡ relisted_to xs t)
  earlier n v live = by (task_of s n) refl
    where
      gone : task_of s n ≡ None
          → (task_of u n ≡ task_of s n) ⊎ (task_of u n ≡ option_map (relisted zs) (task_of s n)) → ⊥
      gone e (inl same) = cc (sym live ∙ same ∙ e)
      gone e (inr moved) = cc (sym live ∙ moved ∙ ap (option_map (relisted zs)) e)

      by : (o : Option Task) → task_of s n ≡ o
          → (t : Task) × (xs : Option Freeable × List Item) × (task_of s n ≡ Some t) × (v ≡ relisted_to xs t)
      by (Some t) e = let (xs, now) = later n t e in (t, xs, e, some_same live now)
      by None e = absurd (gone e (same_but_lists n))

  some_later : (n : Tid) → IsSome (task_of s n) → IsSome (task_of u n)
  some_later n some = by (task_of s n) refl some
    where
      by : (o : Option Task) → task_of s n ≡ o → IsSome o → IsSome (task_of u n)
      by (Some t) e is = let (xs, now) = later n t e in subst (λ (o : Option Task). IsSome o) (sym now) refl
      by None e is = absurd (cc is)

  some_earlier : (n : Tid) → IsSome (task_of u n) → IsSome (task_of s n)
  some_earlier n some = by (task_of u n) refl some
    where
      by : (o : Option Task) → task_of u n ≡ o → IsSome o → IsSome (task_of s n)
      by (Some v) e is =
          let (t, xs, was, same) = earlier n v e in subst (λ (o : Option Task). IsSome o) (sym was) refl
      by None e is = absurd (cc is)

  -- ---- what is visible

  region_later : (n : Rid) → IsVisibleRegion s n → IsVisibleRegion u n
  region_later n seen = record { region = seen.region; live = seen.live; team = λ j d within. some_later (get_or seen.region.team j d).0 (seen.team j d within) }

  region_earlier : (n : Rid) → IsVisibleRegion u n → IsVisibleRegion s n
  region_earlier n seen = record { region = seen.region; live = seen.live; team = λ j d within. some_earlier (get_or seen.region.team j d).0 (seen.team j d within) }

  shown_as : (x y : State) → ((n : Rid) → IsVisibleRegion x n → IsVisibleRegion y n)
      → (implicit : Bool) (n : Rid) (started : Type 0) → MatchBool implicit (IsVisibleRegion x n) started
      → MatchBool implicit (IsVisibleRegion y n) started
  shown_as x y regions true n started is = regions n is
  shown_as x y regions false n started is = is

  task_later : (n : Tid) → IsVisibleTask s n → IsVisibleTask u n
  task_later n seen =
      let (xs, now) = later n seen.task seen.live in
      record { task = relisted_to xs seen.task; live = now; shown = shown_as s u region_later seen.task.implicit seen.task.region (HasStarted seen.task.progress) seen.shown }

  task_earlier : (n : Tid) (seen : IsVisibleTask u n)
      → (was : IsVisibleTask s n) × (xs : Option Freeable × List Item) × (seen.task ≡ relisted_to xs was.task)
  task_earlier n seen =
      let (t, xs, was, same) = earlier n seen.task seen.live in
      (record { task = t; live = was; shown = shown_as u s region_earlier t.implicit t.region (HasStarted t.progress) (subst (λ (x : Task). MatchBool x.implicit (IsVisibleRegion u x.region) (HasStarted x.progress)) same seen.shown) }, xs, same)

  same_chain : scheduling_of u ≡ scheduling_of s
  same_chain = fun_ext (λ n. go n (same_but_lists n))
    where
      of_list : (o : Option Task)
          → option_and_then (λ (t : Task). t.scheduling) (option_map (relisted zs) o) ≡ option_and_then (λ (t : Task). t.scheduling) o
      of_list None = refl
      of_list (Some t) = refl

      go : (n : Tid) → (task_of u n ≡ task_of s n) ⊎ (task_of u n ≡ option_map (relisted zs) (task_of s n))
          → scheduling_of u n ≡ scheduling_of s n
      go n (inl same) = ap (option_and_then (λ (t : Task). t.scheduling)) same
      go n (inr moved) = ap (option_and_then (λ (t : Task). t.scheduling)) moved ∙ of_list (task_of s n)

  -- ---- the state

  task_right : (t : Task) → IsTaskRight s t → IsTaskRight u t
  task_right t o = record {
    region = region_later t.region o.region;
    generating = λ n e. task_later n (o.generating n e);
    scheduling = λ n e. task_later n (o.scheduling n e);
    owner = λ g e. task_later g.owner (o.owner g e);
    begun = record { known = o.begun.known; begun = o.begun.begun };
    ends = subst (λ f. Ends f t.scheduling) (sym same_chain) o.ends;
    variables = o.variables;
  }

  member_later : (m : Tid) (thread : ℕ) → IsMember s m thread → IsMember u m thread
  member_later m thread o = record {
    visible = task_later m o.visible;
    same = λ v live. let (t, xs, was, is) = earlier m v live in ap (λ (x : Task). x.thread) is ∙ o.same t was;
    begun = record { known = o.begun.known; begun = o.begun.begun };
  }

  well_formed_relisted : IsWellFormed s → IsWellFormed u
  unfolding region_earlier
  well_formed_relisted o = record {
    currents = λ i n known is. task_later n (o.currents i n known is);
    states = o.states;
    regions = λ n seen.
        let right = o.regions n (region_earlier n seen) in
        record {
          enclosing = λ q e. region_later q (right.enclosing q e);
          encountering = λ q e. task_later q (right.encountering q e);
          members = λ j d within. member_later (get_or seen.region.team j d).0 (get_or seen.region.team j d).1 (right.members j d within);
          some = right.some;
          few = right.few;
          ends = right.ends;
        };
    tasks = λ n seen.
        let (was, xs, same) = task_earlier n seen in
        let right = o.tasks n was in
        subst (IsTaskRight u) (sym same) (task_right (relisted_to xs was.task) (record {
          region = right.region;
          generating = right.generating;
          scheduling = right.scheduling;
          owner = right.owner;
          begun = right.begun;
          ends = right.ends;
          variables = right.variables;
        }));
  }

  pub owners_relisted : AreOwnersLive s → AreOwnersLive u
  owners_relisted owners n v g live is =
      let (t, xs, was, same) = earlier n v live in
      some_later g.owner (owners n t g was (sym (ap (λ (x : Task). x.group) same) ∙ is))

  pub within_relisted : (w : List ℕ) → IsWithin w s → IsWithin w u
  within_relisted w o = record {
    well_formed = well_formed_relisted o.well_formed;
    count = o.count;
    regions = o.regions;
    tasks = within_stays w tasks s.tasks u.tasks (none_on s.tasks k.0 (relisted zs)) o.tasks;
    regions_named = o.regions_named;
    tasks_named = named_stays s.tasks u.tasks (none_on s.tasks k.0 (relisted zs)) o.tasks_named;
  }
