-- The worked run is legal, event by event.
use Rattle.std.proofs.Common.{◌≡◌, ◌⊎◌, inl, inr, ℕ, zero, suc, Bool, true, false, [], ◌∷◌, ◌++◌, Option, Some, None, refl, sym, ap, ◌∙◌, subst, arith, lit<, lit≤, ◌==◌, ◌&&◌, if◌then◌else◌, eqb-true, List, length, slice_get}
use Rattle.std.specs.List.{All, Contains}
use Rattle.std.specs.Option.{option_map}
use Rattle.omi_model.specs.declared.id.Rid.{Rid}
use Rattle.omi_model.specs.declared.id.Tid.{Tid}
use Rattle.omi_model.specs.declared.event.Event.{Event}
use Rattle.omi_model.specs.declared.event.Event.TheVariants as event
use Rattle.omi_model.specs.declared.region.Region.{Region}
use Rattle.omi_model.specs.declared.task.Task.{Task}
use Rattle.omi_model.specs.Barriers.{HasNoExplicit}
use Rattle.omi_model.specs.Freeing.{HasNoChild, MayFree, MayFreeMember, MayFreeRegion}
use Rattle.omi_model.specs.Fresh.{IsFresh}
use Rattle.omi_model.specs.LawFreeing.{MayGoOnFreeing}
use Rattle.omi_model.specs.Opening.{initial_region, initial_task, opening, opening_task}
use Rattle.omi_model.specs.Put.{Slots, unused}
use Rattle.omi_model.specs.Reached.{Leads, Reached}
use Rattle.omi_model.specs.State.{State, region_of}
use Rattle.omi_model.specs.WorkedRun.{leaf, master, run_events, run_program, run_region, run_to_done, run_to_finish, run_to_join, run_to_last_release, run_to_release, worker}
use Rattle.omi_model.proofs.freeing.FreeingLaws.{finished_freed, joined_freed}
use Rattle.omi_model.proofs.LegalRuns.{Holds, end_of, holds_leads, next_of}
use Rattle.omi_model.proofs.PlacesMade.{LivesIn, lives_leads}
use Rattle.omi_model.proofs.RegionEnds.{leads_append}
use Rattle.omi_model.proofs.Slots.{false_true, none_some, some_same}

-- ---- tasks of the run

-- the four slots of thread 0
abbrev InRun : ℕ → ℕ → Type 0
InRun c k = (c ≡ 0) × ((k ≡ 0) ⊎ ((k ≡ 1) ⊎ ((k ≡ 2) ⊎ (k ≡ 3))))

lives_first : LivesIn InRun (opening run_program).tasks
lives_first c k t live = go (c == 0) (k == 0) refl refl live
  where
    go : (a b : Bool) → c == 0 ≡ a → k == 0 ≡ b
        → (if a && b then record { generations = 1; live = Some (opening_task run_program) } else unused).live ≡ Some t
        → InRun c k
    go true true e f h = (eqb-true c 0 e, inl (eqb-true k 0 f))
    go true false e f h = absurd (none_some refl h)
    go false b e f h = absurd (none_some refl h)

-- a fact of each task in these slots, by a test of each slot
abbrev passes : (Task → Bool) → Option Task → Bool
passes test None = true
passes test (Some t) = test t

each_passes : (test : Task → Bool) (s : State) → LivesIn InRun s.tasks → passes test (s.tasks 0 0).live ≡ true
    → passes test (s.tasks 0 1).live ≡ true → passes test (s.tasks 0 2).live ≡ true
    → passes test (s.tasks 0 3).live ≡ true → (c k : ℕ) (t : Task) → (s.tasks c k).live ≡ Some t → test t ≡ true
each_passes test s lives a b c' d c k t live = go (lives c k t live)
  where
    of : (o : Option Task) → o ≡ Some t → passes test o ≡ true → test t ≡ true
    of None e h = absurd (none_some refl e)
    of (Some x) e h = subst (λ (y : Task). test y ≡ true) (some_same refl e) h

    at : (j : ℕ) → c ≡ 0 → k ≡ j → passes test (s.tasks 0 j).live ≡ true → test t ≡ true
    at j first slot =
        of (s.tasks 0 j).live
        (subst (λ x. (s.tasks 0 x).live ≡ Some t) slot (subst (λ x. (s.tasks x k).live ≡ Some t) first live))

    go : InRun c k → test t ≡ true
    go (first, inl e) = at 0 first e a
    go (first, inr (inl e)) = at 1 first e b
    go (first, inr (inr (inl e))) = at 2 first e c'
    go (first, inr (inr (inr e))) = at 3 first e d

-- no explicit task lives where each slot has an implicit one or none
abbrev is_member : Task → Bool
is_member t = t.implicit

none_explicit : (s : State) (n : Rid) → LivesIn InRun s.tasks → passes is_member (s.tasks 0 0).live ≡ true
    → passes is_member (s.tasks 0 1).live ≡ true → passes is_member (s.tasks 0 2).live ≡ true
    → passes is_member (s.tasks 0 3).live ≡ true → HasNoExplicit s n
none_explicit s n lives a b c' d c k t live ex region =
    false_true (sym ex ∙ each_passes is_member s lives a b c' d c k t live)

-- none is a child of the deferred task
abbrev is_apart : Option Tid → Bool
is_apart None = true
is_apart (Some k) = if k.0.slot == 3 then false else true

abbrev is_no_child : Task → Bool
is_no_child t = is_apart t.generating

none_child : (s : State) → LivesIn InRun s.tasks → passes is_no_child (s.tasks 0 0).live ≡ true
    → passes is_no_child (s.tasks 0 1).live ≡ true → passes is_no_child (s.tasks 0 2).live ≡ true
    → passes is_no_child (s.tasks 0 3).live ≡ true → HasNoChild s leaf
none_child s lives a b c' d c k t live ex by =
    false_true (sym (ap is_apart by) ∙ each_passes is_no_child s lives a b c' d c k t live)

-- a fact of a region that is found
of_found : {A : Type 0} (f : Region → A) (o : Option Region) (r : Region) (x : A) → o ≡ Some r → option_map f o ≡ Some x → f r ≡ x
of_found f o r x found is = some_same refl (subst (λ (q : Option Region). option_map f q ≡ Some x) found is)

-- ---- small facts

none_in_none : {A : Type 0} (x : A) → Contains [] x → ⊥
none_in_none x (k, within, is) = omega (arith, within)

apart : Contains (worker ∷ []) master → ⊥
apart (zero, within, is) = let same : ◌≡◌ {A = ℕ} 2 1 = ap (λ (a : Tid). a.0.slot) is in omega arith
apart (suc k, within, is) = omega (arith, within)

team_fresh : (slots : Slots Task) → IsFresh slots 0 master.0 → IsFresh slots 0 worker.0
    → All {X = Tid × ℕ} (λ m. IsFresh slots 0 m.0.0) ((master, 0) ∷ (worker, 1) ∷ [])
team_fresh slots a b zero d within = a
team_fresh slots a b (suc zero) d within = b
team_fresh slots a b (suc (suc k)) d within = absurd (omega (arith, within))

both_one : All {X = ℕ} (λ n. n ≡ 1) (1 ∷ 1 ∷ [])
both_one zero d within = refl
both_one (suc zero) d within = refl
both_one (suc (suc k)) d within = absurd (omega (arith, within))

alone_one : All {X = ℕ} (λ n. n ≡ 1) (1 ∷ [])
alone_one zero d within = refl
alone_one (suc k) d within = absurd (omega (arith, within))

one_true : All {X = Bool} (λ b. b ≡ true) (true ∷ [])
one_true zero d within = refl
one_true (suc k) d within = absurd (omega (arith, within))

-- ---- up to the finish of the deferred task

abbrev first : State
first = opening run_program

holds_finish : Holds run_program first run_to_finish
holds_finish = (
  lit< tt,
  refl,
  refl,
  (
    lit< tt,
    record { idle = refl; held = λ e. cc },
    refl,
    (
      lit< tt,
      (_, _, record { name = refl; live = refl }, tt),
      refl,
      (
        lit< tt,
        tt,
        refl,
        (
          lit< tt,
          (_, _, _, record { name = refl; live = refl }, refl, refl),
          refl,
          (
            lit< tt,
            record { known = lit< tt; other = λ e. cc; new = λ h. none_in_none 1 h; least = λ v below other. absurd (other (omega (arith, below))); smaller = lit< tt; joins = λ e. refl; busy = λ e. absurd (false_true (sym e)) },
            refl,
            (
              lit< tt,
              (_, _, _, record { name = refl; live = refl }, refl, record { over = inl refl; threads = refl; region_new = record { creator = refl; empty = refl; next = refl; below = lit< tt }; tasks_new = team_fresh _ record { creator = refl; empty = refl; next = refl; below = lit< tt } record { creator = refl; empty = refl; next = refl; below = lit< tt }; distinct = (apart, (none_in_none worker, tt)) }),
              refl,
              (
                lit< tt,
                record { idle = refl; member = _; live = refl; waiting = refl; mine = refl },
                refl,
                (
                  lit< tt,
                  tt,
                  refl,
                  (
                    lit< tt,
                    tt,
                    refl,
                    (
                      lit< tt,
                      tt,
                      refl,
                      (
                        lit< tt,
                        tt,
                        refl,
                        (
                          lit< tt,
                          (_, _, record { name = refl; live = refl }, tt),
                          refl,
                          (
                            lit< tt,
                            (_, _, record { name = refl; live = refl }, record { creator = refl; empty = refl; next = refl; below = lit< tt }),
                            refl,
                            (
                              lit< tt,
                              (_, _, record { name = refl; live = refl }, tt),
                              refl,
                              (
                                lit< tt,
                                tt,
                                refl,
                                (
                                  lit< tt,
                                  tt,
                                  refl,
                                  (
                                    lit< tt,
                                    (_, _, _, record { name = refl; live = refl }, refl, refl),
                                    refl,
                                    (
                                      lit< tt,
                                      tt,
                                      refl,
                                      (
                                        lit< tt,
                                        (_, _, _, record { name = refl; live = refl }, refl, refl),
                                        refl,
                                        (
                                          lit< tt,
                                          (_, _, record { name = refl; live = refl }, record { new = _; live = refl; explicit = refl; deferred = refl; allowed = refl }),
                                          refl,
                                          (
                                            lit< tt,
                                            tt,
                                            refl,
                                            (
                                              lit< tt,
                                              tt,
                                              refl,
                                              (
                                                lit< tt,
                                                (_, _, record { name = refl; live = refl }, record { current = refl; explicit = refl }),
                                                refl,
                                                tt,
                                              ),
                                            ),
                                          ),
                                        ),
                                      ),
                                    ),
                                  ),
                                ),
                              ),
                            ),
                          ),
                        ),
                      ),
                    ),
                  ),
                ),
              ),
            ),
          ),
        ),
      ),
    ),
  ),
)

abbrev at_finish : State
at_finish = end_of run_program first run_to_finish

leads_finish : Leads run_program first run_to_finish at_finish
leads_finish = holds_leads run_program first run_to_finish holds_finish

-- the slots of the run, one by one
in_run : (k : ℕ) → (k ≡ 0) ⊎ ((k ≡ 1) ⊎ ((k ≡ 2) ⊎ (k ≡ 3))) → InRun 0 k
in_run k is = (refl, is)

lives_finish : LivesIn InRun at_finish.tasks
lives_finish =
    lives_leads InRun run_program first run_to_finish at_finish leads_finish
    (tt, (tt, (tt, (tt, (tt, (tt, ((in_run 1 (inr (inl refl)), (in_run 2 (inr (inr (inl refl))), tt)), (tt, (tt, (tt, (tt, (tt, (tt, (in_run 3 (inr (inr (inr refl))), (tt, (tt, (tt, (tt, (tt, (tt, (tt, (tt, (tt, (tt, tt))))))))))))))))))))))))
    lives_first

-- ---- up to the first release

leaf_free : MayFree at_finish leaf leaf
leaf_free = record {
  next_is = refl;
  old = _;
  spent = finished_freed run_program run_to_finish at_finish leads_finish leaf _ refl refl refl
      (none_child at_finish lives_finish refl refl refl refl);
  explicit = refl;
}

holds_release : Holds run_program at_finish run_to_release
holds_release = (
  lit< tt,
  (_, _, record { name = refl; live = refl }, leaf_free),
  refl,
  (
    lit< tt,
    tt,
    refl,
    tt,
  ),
)

abbrev at_release : State
at_release = end_of run_program at_finish run_to_release

leads_release : Leads run_program at_finish run_to_release at_release
leads_release = holds_leads run_program at_finish run_to_release holds_release

lives_release : LivesIn InRun at_release.tasks
lives_release =
    lives_leads InRun run_program at_finish run_to_release at_release leads_release (tt, (tt, tt)) lives_finish

-- ---- up to the join

alone_first : HasNoExplicit at_release run_region
alone_first = none_explicit at_release run_region lives_release refl refl refl refl

holds_join : Holds run_program at_release run_to_join
holds_join = (
  lit< tt,
  (_, _, _, record { name = refl; live = refl }, refl, record { first = refl; arrived = λ k d within. both_one k d within; alone = alone_first }),
  refl,
  (
    lit< tt,
    (_, _, _, record { name = refl; live = refl }, refl, lit≤ tt),
    refl,
    (
      lit< tt,
      (_, _, _, record { name = refl; live = refl }, refl, lit≤ tt),
      refl,
      (
        lit< tt,
        (_, _, _, record { name = refl; live = refl }, refl, record { current = refl; implicit = refl; other = λ e. cc }),
        refl,
        (
          lit< tt,
          tt,
          refl,
          (
            lit< tt,
            record { idle = refl; held = λ e. cc },
            refl,
            (
              lit< tt,
              (_, _, _, record { name = refl; live = refl }, refl, record { mine = refl; implicit = refl; first = refl; ended = λ k d within. one_true k d within }),
              refl,
              tt,
            ),
          ),
        ),
      ),
    ),
  ),
)

abbrev at_join : State
at_join = end_of run_program at_release run_to_join

leads_join : Leads run_program at_release run_to_join at_join
leads_join = holds_leads run_program at_release run_to_join holds_join

lives_join : LivesIn InRun at_join.tasks
lives_join = lives_leads InRun run_program at_release run_to_join at_join leads_join (tt, (tt, (tt, (tt, (tt, (tt, (tt, tt))))))) lives_release

abbrev events_join : List (ℕ × Event)
events_join = run_to_finish ++ (run_to_release ++ run_to_join)

reached_join : Reached run_program events_join at_join
reached_join =
    leads_append run_program first run_to_finish at_finish (run_to_release ++ run_to_join) at_join leads_finish
    (leads_append run_program at_finish run_to_release at_release run_to_join at_join leads_release leads_join)

-- ---- up to the last release: what the region's end leaves to give back may be given back

frees_master : MayGoOnFreeing at_join 0 run_region 0
frees_master =
    joined_freed run_program events_join at_join reached_join 0 initial_task _ run_region 0 (record { name = refl; live = refl })
    refl

master_free : MayFreeMember at_join master run_region 0
master_free =
    frees_master.member (master, 0)
    (of_found (λ (r : Region). slice_get r.team 0) (region_of at_join run_region) frees_master.region (Some (master, 0)) frees_master.live refl)

abbrev at_worker : State
at_worker = next_of run_program at_join 0 (event.FreeTask master)

abbrev events_worker : List (ℕ × Event)
events_worker = events_join ++ (0, event.FreeTask master) ∷ []

reached_worker : Reached run_program events_worker at_worker
reached_worker =
    leads_append run_program first events_join at_join ((0, event.FreeTask master) ∷ []) at_worker reached_join
    (holds_leads run_program at_join ((0, event.FreeTask master) ∷ []) (lit< tt, (_, _, record { name = refl; live = refl }, master_free), refl, tt))

frees_worker : MayGoOnFreeing at_worker 0 run_region 1
frees_worker =
    joined_freed run_program events_worker at_worker reached_worker 0 initial_task _ run_region 1 (record { name = refl; live = refl })
    refl

worker_free : MayFreeMember at_worker worker run_region 1
worker_free =
    frees_worker.member (worker, 1)
    (of_found (λ (r : Region). slice_get r.team 1) (region_of at_worker run_region) frees_worker.region (Some (worker, 1)) frees_worker.live refl)

abbrev at_region : State
at_region = next_of run_program at_worker 0 (event.FreeTask worker)

reached_region : Reached run_program (events_worker ++ (0, event.FreeTask worker) ∷ []) at_region
reached_region =
    leads_append run_program first events_worker at_worker ((0, event.FreeTask worker) ∷ []) at_region reached_worker
    (holds_leads run_program at_worker ((0, event.FreeTask worker) ∷ []) (lit< tt, (_, _, record { name = refl; live = refl }, worker_free), refl, tt))

frees_region : MayGoOnFreeing at_region 0 run_region 2
frees_region =
    joined_freed run_program (events_worker ++ (0, event.FreeTask worker) ∷ []) at_region reached_region 0 initial_task _ run_region 2
    (record { name = refl; live = refl }) refl

region_free : MayFreeRegion at_region run_region run_region 2
region_free =
    frees_region.last
    (sym (of_found (λ (r : Region). length r.team) (region_of at_region run_region) frees_region.region 2 frees_region.live refl))

holds_last_release : Holds run_program at_join run_to_last_release
holds_last_release = (
  lit< tt,
  (_, _, record { name = refl; live = refl }, master_free),
  refl,
  (
    lit< tt,
    (_, _, record { name = refl; live = refl }, worker_free),
    refl,
    (
      lit< tt,
      (_, _, record { name = refl; live = refl }, region_free),
      refl,
      (
        lit< tt,
        tt,
        refl,
        (
          lit< tt,
          (_, _, record { name = refl; live = refl }, tt),
          refl,
          (
            lit< tt,
            tt,
            refl,
            (
              lit< tt,
              (_, _, _, record { name = refl; live = refl }, refl, refl),
              refl,
              tt,
            ),
          ),
        ),
      ),
    ),
  ),
)

abbrev at_last_release : State
at_last_release = end_of run_program at_join run_to_last_release

leads_last_release : Leads run_program at_join run_to_last_release at_last_release
leads_last_release = holds_leads run_program at_join run_to_last_release holds_last_release

lives_last_release : LivesIn InRun at_last_release.tasks
lives_last_release =
    lives_leads InRun run_program at_join run_to_last_release at_last_release leads_last_release (tt, (tt, (tt, (tt, (tt, (tt, (tt, tt))))))) lives_join

-- ---- to the end

alone_last : HasNoExplicit at_last_release initial_region
alone_last = none_explicit at_last_release initial_region lives_last_release refl refl refl refl

holds_done : Holds run_program at_last_release run_to_done
holds_done = (
  lit< tt,
  (_, _, _, record { name = refl; live = refl }, refl, record { first = refl; arrived = λ k d within. alone_one k d within; alone = alone_last }),
  refl,
  (
    lit< tt,
    (_, _, _, record { name = refl; live = refl }, refl, lit≤ tt),
    refl,
    (
      lit< tt,
      refl,
      refl,
      tt,
    ),
  ),
)

-- so the run is legal
pub run_is_legal : (s : State) × Reached run_program run_events s
run_is_legal =
    let last = end_of run_program at_last_release run_to_done in (
      last,
      leads_append run_program first run_to_finish at_finish (run_to_release ++ (run_to_join ++ (run_to_last_release ++ run_to_done))) last
          leads_finish
          (leads_append run_program at_finish run_to_release at_release (run_to_join ++ (run_to_last_release ++ run_to_done)) last leads_release
          (leads_append run_program at_release run_to_join at_join (run_to_last_release ++ run_to_done) last leads_join
          (leads_append run_program at_join run_to_last_release at_last_release run_to_done last leads_last_release
          (holds_leads run_program at_last_release run_to_done holds_done)))),
    )
