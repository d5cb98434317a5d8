-- Regions whose members are all live: one that encloses a live region, and one of which an explicit task lives.
use Rattle.std.proofs.Common.{◌≡◌, inl, inr, ℕ, true, false, List, [], get_or, Option, Some, None, is_some, refl, sym, ap, ◌∙◌, subst}
use Rattle.std.specs.Prelude.{IsSome}
use Rattle.std.specs.List.{All}
use Rattle.std.proofs.lemmas.Option.{slice_get-get_or}
use Rattle.omi_script.specs.declared.program.Program.{Program}
use Rattle.omi_model.specs.declared.event.Event.{Event}
use Rattle.omi_model.specs.declared.id.Rid.{Rid}
use Rattle.omi_model.specs.declared.id.Tid.{Tid}
use Rattle.omi_model.specs.declared.item.Item.{Item}
use Rattle.omi_model.specs.declared.progress.Progress.TheVariants.{Begun, Finished}
use Rattle.omi_model.specs.declared.region.Region.{Region}
use Rattle.omi_model.specs.declared.task.Task.{Task}
use Rattle.omi_model.specs.Changes.{IsCurrent}
use Rattle.omi_model.specs.LawStays.{IsNeededRegion, IsTeamNeeded, Stays}
use Rattle.omi_model.specs.Opening.{opening}
use Rattle.omi_model.specs.Reached.{Reached, Step}
use Rattle.omi_model.specs.State.{State, task_of}
use Rattle.omi_model.specs.Visible.{IsVisibleRegion}
use Rattle.omi_model.proofs.ChainsKept.{current_begun}
use Rattle.omi_model.proofs.EachObject.{EachRegion, EachTask, IsRegionLaw, IsTaskLaw, law_of_lasting, region_step, task_step}
use Rattle.omi_model.proofs.members.EncounterLaws.{open_around, visible_open}
use Rattle.omi_model.proofs.GeneratingChains.{was}
use Rattle.omi_model.proofs.OpenNames.{open_names}
use Rattle.omi_model.proofs.OpeningObjects.{each_first_region, each_first_task}
use Rattle.omi_model.proofs.ReachedStates.{over_reached}
use Rattle.omi_model.proofs.Slots.{false_true, none_some, some_same}
use Rattle.omi_model.proofs.StaysKept.{needed_enclosing, needed_region, stays_step}
use Rattle.omi_model.proofs.Steps.{IsRelisted}

pub record AreWhole (s : State) : Type 0 where
  pub enclosing : EachRegion (λ n r. (o : Rid) → r.enclosing ≡ Some o → IsVisibleRegion s o) s
  pub explicit : EachTask (λ k t. t.implicit ≡ false → IsVisibleRegion s t.region) s

begun_finished : Begun ≡ Finished → ⊥
begun_finished e = cc

-- each member's task is live
abbrev IsLiveTeam : State → List (Tid × ℕ) → Type 0
IsLiveTeam s team = All (λ m. IsSome (task_of s m.0)) team

-- a live task, where there is one
pub live_of : (o : Option Task) → is_some o ≡ true → (t : Task) × (o ≡ Some t)
live_of None is = absurd (false_true is)
live_of (Some t) is = (t, refl)

module _ (p : Program) (events : List (ℕ × Event)) (s : State) (reached : Reached p events s) (i : ℕ)
    (e : Event) (next : State) (step : Step p s i e next) where
  stay : Stays s next
  stay = stays_step p s i e next step

  -- a team that is needed stays whole
  whole_later : (n : Rid) → IsTeamNeeded s n → ((r : Region) → IsNeededRegion s n r) → IsVisibleRegion s n
      → IsVisibleRegion next n
  whole_later n team need seen =
      let (q, found, same) = stay.regions n seen.region seen.live (need seen.region) in
      record { region = q; live = found; team = subst (IsLiveTeam next) (sym same.team) stays_live }
    where
      stays_live : IsLiveTeam next seen.region.team
      stays_live j d within =
          let (t, live) = live_of (task_of s (get_or seen.region.team j d).0) (seen.team j d within) in
          let at = slice_get-get_or seen.region.team j d within in
          let names = (open_names p events s reached).regions n seen.region seen.live in
          let is = names.members j (get_or seen.region.team j d) at t live in
          let need = subst (IsTeamNeeded s) (sym is.region) team in
          let (v, found, same) =
          stay.tasks (get_or seen.region.team j d).0 is.task is.live (inl (is.implicit, need)) in
          ap is_some found

  -- the region of the current task
  own_region : (middle : State) → IsRelisted s middle → (k : Tid) (t : Task) → IsCurrent middle i k t
      → IsVisibleRegion next t.region
  own_region middle before k t is =
      let (v, xs, cur, same) = was p events s reached i e next step middle before k t is in
      let begun = (current_begun p events s reached i k v cur.name cur.live).0 in
      let (r, found, unjoined) = open_around p events s reached k v cur.live (λ f. begun_finished (sym begun ∙ f)) in
      subst (λ (x : Task). IsVisibleRegion next x.region) (sym same)
      (whole_later v.region (inl (r, found, unjoined)) (needed_region s k v cur.live) (visible_open p events s reached v.region r found unjoined))

  pub whole_step : AreWhole s → AreWhole next
  whole_step all = record {
    enclosing = region_step p (λ n r. (o : Rid) → r.enclosing ≡ Some o → IsVisibleRegion next o) s i e next step region_law
        (λ n r live o is. whole_later o (inr (inr (n, r, live, is))) (λ q. needed_enclosing s n o r q live is) (all.enclosing n r live o is));
    explicit = task_step p (λ k t. t.implicit ≡ false → IsVisibleRegion next t.region) s i e next step (λ k t y ys is taken q. q) task_law
        (λ k t live ex. whole_later t.region (inr (inl (k, t, live, ex, refl))) (needed_region s k t live) (all.explicit k t live ex));
  }
    where
      region_law : (middle : State) → IsRelisted s middle → Stays middle next
          → IsRegionLaw p middle i next (λ n r. (o : Rid) → r.enclosing ≡ Some o → IsVisibleRegion next o)
      region_law middle before later = record {
        arrives = λ k t r is found q. q;
        releases = λ k t r is found may q. q;
        ends = λ k t r is found im other q. q;
        joins = λ k t r is found may q. q;
        forks = λ region team f k t r is found may new o met. subst (IsVisibleRegion next) (some_same refl met) (own_region middle before k t is);
      }

      task_law : (middle : State) (y : Item) → IsRelisted s middle → Stays middle next
          → EachTask (λ k t. t.implicit ≡ false → IsVisibleRegion next t.region) middle
          → IsTaskLaw p middle i e y next (λ k t. t.implicit ≡ false → IsVisibleRegion next t.region)
      task_law middle y before later of_tasks = law_of_lasting p middle i e y next (λ k t. t.implicit ≡ false → IsVisibleRegion next t.region) (record {
        starts = λ k u j t x is live ex de may of by q. q;
        members = λ region team f k t r is found may new of by j n at ex. absurd (false_true (sym ex));
        deferred = λ task f final seen k t is of fresh ex. own_region middle before k t is;
        made = λ task f final k t is of fresh by ex. own_region middle before k t is;
      })

pub are_whole : (p : Program) (events : List (ℕ × Event)) (s : State) → Reached p events s → AreWhole s
are_whole p events s reached =
    over_reached p AreWhole
    (λ first u first_reached i e next step h. whole_step p first u first_reached i e next step h) []
    (opening p) refl events s reached
    (record {
      enclosing = each_first_region p (λ n r. (o : Rid) → r.enclosing ≡ Some o → IsVisibleRegion (opening p) o) (λ o is. absurd (none_some refl is));
      explicit = each_first_task p (λ k t. t.implicit ≡ false → IsVisibleRegion (opening p) t.region) (λ ex. absurd (false_true (sym ex)));
    })
