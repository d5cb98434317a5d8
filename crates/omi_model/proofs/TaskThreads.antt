-- The thread of each task that is not deferred has begun, and no team is larger than the number of threads.
use Rattle.std.proofs.Common.{◌≡◌, ◌<◌, ◌≤◌, inl, inr, ℕ, zero, suc, true, List, [], ◌∷◌, length, map, get_or, slice_get, Some, refl, sym, ap, ◌∙◌, subst, arith}
use Rattle.std.proofs.lemmas.List.{get_or-map, length-map}
use Rattle.std.proofs.lemmas.Option.{get_or_from_slice_get, slice_get_within}
use Rattle.omi_script.proofs.RuleLemmas.{Rules-from_accepted}
use Rattle.omi_script.specs.declared.program.Program.{Program}
use Rattle.omi_model.specs.declared.event.Event.{Event}
use Rattle.omi_model.specs.declared.id.Rid.{Rid}
use Rattle.omi_model.specs.declared.id.Tid.{Tid}
use Rattle.omi_model.specs.declared.item.Item.{Item}
use Rattle.omi_model.specs.declared.progress.Progress.TheVariants.{Begun, Deferred, NotBegun}
use Rattle.omi_model.specs.declared.region.Region.{Region}
use Rattle.omi_model.specs.declared.task.Task.{Task}
use Rattle.omi_model.specs.Changes.{IsCurrent}
use Rattle.omi_model.specs.LawStays.{Stays}
use Rattle.omi_model.specs.Opening.{opening}
use Rattle.omi_model.specs.Reached.{Reached, Step}
use Rattle.omi_model.specs.State.{State}
use Rattle.omi_model.specs.Teams.{MayFork, got_threads}
use Rattle.omi_model.specs.WellFormed.{HasBegun}
use Rattle.omi_model.proofs.AskedTeams.{asked_reached, begun_later, team_fits}
use Rattle.omi_model.proofs.BegunThreads.{HasBegunOrNot}
use Rattle.omi_model.proofs.ChainsKept.{current_begun}
use Rattle.omi_model.proofs.EachObject.{EachRegion, EachTask, IsRegionLaw, IsTaskLaw, region_step, task_step}
use Rattle.omi_model.proofs.OpeningObjects.{each_first_region, each_first_task}
use Rattle.omi_model.proofs.ReachedStates.{over_reached}
use Rattle.omi_model.proofs.Slots.{none_some}
use Rattle.omi_model.proofs.StaysKept.{stays_step}
use Rattle.omi_model.proofs.Steps.{IsRelisted}

abbrev pub RunsOnBegun : State → Tid → Task → Type 0
RunsOnBegun s k t = (t.progress ≡ Deferred → ⊥) → HasBegun s t.thread

abbrev pub TeamFits : State → Rid → Region → Type 0
TeamFits s n r = length r.team ≤ s.count

pub record AreManned (s : State) : Type 0 where
  pub tasks : EachTask (RunsOnBegun s) s
  pub regions : EachRegion (TeamFits s) s

not_waiting : (t : Task) → t.progress ≡ NotBegun → t.progress ≡ Deferred → ⊥
not_waiting t a b = cc

not_begun : Begun ≡ Deferred → ⊥
not_begun e = cc

module _ (p : Program) (events : List (ℕ × Event)) (s : State) (reached : Reached p events s) (i : ℕ)
    (e : Event) (next : State) (step : Step p s i e next) (manned : AreManned s) where
  stay : Stays s next
  stay = stays_step p s i e next step

  -- a thread with a task has begun
  own_begun : (k : Tid) → (s.threads i).current ≡ Some k → HasBegun next i
  own_begun k name =
      begun_later s next stay i
      (record { known = step.legal.known; begun = go ((asked_reached p events s reached).begun i) })
    where
      go : HasBegunOrNot i (s.threads i) → (s.threads i).begun ≡ true
      go (inl b) = b
      go (inr un) = absurd (none_some un.idle name)

  -- the threads of a new team
  team_begun : (middle : State) → IsRelisted s middle → (region : Rid) (team : List (Tid × ℕ))
      → HasBegun next i → MayFork middle i region team → (j : ℕ) (m : Tid × ℕ) → slice_get team j ≡ Some m
      → HasBegun next m.1
  team_begun middle before region team own may j m at =
      let threads : map (λ m. m.1) team ≡ i ∷ got_threads (s.threads i).asks =
      may.threads ∙ ap (λ as'. i ∷ got_threads as') (before.asks i) in
      let within : j < length team = slice_get_within team j m at in
      let here : get_or (map (λ (a : Tid × ℕ). a.1) team) j 0 ≡ m.1 =
      get_or-map (λ (a : Tid × ℕ). a.1) team j m 0 within
      ∙ ap (λ (a : Tid × ℕ). a.1) (get_or_from_slice_get team j m m at) in
      subst (HasBegun next) (ap (λ xs. get_or xs j 0) (sym threads) ∙ here)
      (of_place j (omega (arith, within, length-map team (λ (a : Tid × ℕ). a.1), ap (λ (xs : List ℕ). length xs) threads)))
    where
      of_place : (j : ℕ) → j < length (i ∷ got_threads (s.threads i).asks)
          → HasBegun next (get_or (i ∷ got_threads (s.threads i).asks) j 0)
      of_place zero within = own
      of_place (suc k) within =
          begun_later s next stay (get_or (got_threads (s.threads i).asks) k 0)
          (((asked_reached p events s reached).asks i).begun k 0 (omega arith))

  name_before : (middle : State) → IsRelisted s middle → (k : Tid) (t : Task) → IsCurrent middle i k t
      → (s.threads i).current ≡ Some k
  name_before middle before k t is = sym (before.currents i) ∙ is.name

  manned_step : AreManned next
  manned_step = record {
    tasks = task_step p (RunsOnBegun next) s i e next step (λ k t y ys is taken q. q) task_law (λ k t live un. begun_later s next stay t.thread (manned.tasks k t live un));
    regions = region_step p (TeamFits next) s i e next step region_law (λ n r live. subst (λ c. length r.team ≤ c) (sym stay.count) (manned.regions n r live));
  }
    where
      task_law : (middle : State) (y : Item) → IsRelisted s middle → Stays middle next
          → EachTask (RunsOnBegun next) middle → IsTaskLaw p middle i e y next (RunsOnBegun next)
      task_law middle y before later all = record {
        frees = λ k t free how q. q;
        shows = λ k t x q. q;
        tools = λ k t x q. q;
        groups = λ k t count is how q. q;
        sets = λ k t icv value v f at_set q. q;
        begins = λ k t waits mine by q un. q (not_waiting t waits);
        finishes = λ k t is over q un. q (current_undeferred k t is);
        starts = λ k u j t x is live ex de may of by q un. own_begun j (name_before middle before j t is);
        members = λ region team f k t r is found may new of by j m at un. team_begun middle before region team (own_begun k (name_before middle before k t is)) may j m at;
        deferred = λ task f final seen k t is of fresh un. absurd (un refl);
        made = λ task f final k t is of fresh by un. own_begun k (name_before middle before k t is);
      }
        where
          current_undeferred : (k : Tid) (t : Task) → IsCurrent middle i k t → t.progress ≡ Deferred → ⊥
          current_undeferred k t is d =
              let (v, xs, live, same) = before.tasks k t is.live in
              let begun =
              (current_begun p events s reached i k v (name_before middle before k t is) live).0 in
              not_begun (sym begun ∙ (ap (λ (x : Task). x.progress) (sym same) ∙ d))

      region_law : (middle : State) → IsRelisted s middle → Stays middle next
          → IsRegionLaw p middle i next (TeamFits next)
      region_law middle before later = record {
        arrives = λ k t r is found q. q;
        releases = λ k t r is found may q. q;
        ends = λ k t r is found im other q. q;
        joins = λ k t r is found may q. q;
        forks = λ region team f k t r is found may new.
            omega (
              arith,
              length-map team (λ (a : Tid × ℕ). a.1),
              ap (λ (xs : List ℕ). length xs) (may.threads ∙ ap (λ as'. i ∷ got_threads as') (before.asks i)),
              team_fits i s.count (s.threads i).asks step.legal.known ((asked_reached p events s reached).asks i).first,
              stay.count,
            );
      }

pub are_manned : (p : Program) (events : List (ℕ × Event)) (s : State) → Reached p events s → AreManned s
are_manned p events s reached =
    over_reached p AreManned
    (λ first u first_reached i e next step h. manned_step p first u first_reached i e next step h) []
    (opening p) refl events s reached
    (record {
      tasks = each_first_task p (RunsOnBegun (opening p)) (λ un. record { known = omega (arith, (Rules-from_accepted p).threads.0); begun = refl });
      regions = each_first_region p (TeamFits (opening p)) (omega (arith, (Rules-from_accepted p).threads.0));
    })
