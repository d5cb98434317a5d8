-- The steps of a parallel construct: its searches, and everything else.
use Rattle.std.proofs.Common.{◌≡◌, inr, ◌<◌, ◌+◌, nat_lt, ℕ, zero, suc, Bool, true, false, List, length, None, refl, sym, ap, ◌∙◌, subst, arith, if◌then◌else◌}
use Rattle.std.proofs.lemmas.List.{length-map}
use Rattle.omi_word.specs.declared.op.Op.TheVariants as op
use Rattle.omi_script.specs.declared.program.Program.{Program}
use Rattle.omi_model.specs.declared.event.Event.{Event}
use Rattle.omi_model.specs.declared.id.Rid.{Rid}
use Rattle.omi_model.specs.declared.id.Tid.{Tid}
use Rattle.omi_model.specs.Columns.{tasks_of}
use Rattle.omi_model.specs.State.{State}
use Rattle.omi_model.specs.Teams.{got_threads}
use Rattle.omi_layout.specs.declared.field.Field.TheVariants.{RegionActive, RegionLevels, RegionLife, TaskLife}
use Rattle.omi_layout.specs.Field.{regions, tasks}
use Rattle.omi_layout.specs.Memory.{Memory}
use Rattle.omi_pc.specs.declared.actor.Actor.{Actor}
use Rattle.omi_pc.specs.declared.counter.Counter.TheVariants as counter
use Rattle.omi_pc.specs.declared.limits.TheConstants.{REGION_WORDS, TASK_WORDS, VARIABLE_WORDS}
use Rattle.omi_pc.specs.declared.team_counter.TeamCounter.{TeamCounter}
use Rattle.omi_pc.specs.declared.team_counter.TeamCounter.TheVariants as team
use Rattle.omi_pc.specs.Moves.{begun_master, back_to_work}
use Rattle.omi_rep.specs.declared.outcome.Outcome.TheVariants as outcome
use Rattle.omi_rule_words.specs.Owes.{Owed, all_owed}
use Rattle.omi_step_words.specs.Moving.{to_team}
use Rattle.omi_step_words.specs.Plan.{of_variable, variable_at}
use Rattle.omi_step_words.specs.Searches.{next_slot, own_place}
use Rattle.omi_step_words.specs.Words.{is_free, object_in, of_place}
use Rattle.omi_fork.specs.TeamParts.{master_context, region_function, team_size}
use Rattle.omi_fork.specs.TeamSteps.{assigning_from, team_moved, team_next, team_outcome}
use Rattle.omi_rule.specs.Steps.{IsOn, RecordWord, found_in}
use Rattle.omi_rule.proofs.Assembly.{Before}
use Rattle.omi_rule.proofs.team.Loads.{variable_word}
use Rattle.omi_rule.proofs.team.Records.{is_forking}
use Rattle.omi_rule.proofs.team.Within.{context_placed, fits, owes, placed, row}
use Rattle.omi_rule_watch.specs.Demands.{MayOweRegion, MayOweTask}
use Rattle.omi_rule_watch.specs.Given.{IsFirst, IsSearchGiven, own_life, region_found, sought, task_found}
use Rattle.omi_rule_watch.specs.Watch.{Watch, finds}
use Rattle.omi_rule_watch.proofs.Cases.{one_of}
use Rattle.omi_rule_watch.proofs.OwedRecords.{first_few, no_region_owed, tasks_owed}
use Rattle.omi_rule_watch.proofs.Parts.{IsCalm, KeepsParts, PartsKeep, calm_at, either_none, event_rests, quiet_rests}
use Rattle.omi_rule_watch.proofs.Resting.{Rests, rests_actor, rests_working}
use Rattle.omi_rule_watch.proofs.Searching.{region_found_free, region_passed, region_taken, task_found_free, task_passed, task_taken}
use Rattle.omi_rule_watch.proofs.Standing.{own, own_maker, record_word, some_word, word_of}

-- a word of a data environment is no life word
pub no_life : (word i found creator slot address : ℕ) → word < VARIABLE_WORDS
    →
    (finds RegionLife i (record { creator = creator; slot = slot; field = (variable_at word).0; place = (variable_at word).1 })
    (op.Load address) found outcome.Quiet ≡ false)
    ×
    (finds TaskLife i (record { creator = creator; slot = slot; field = (variable_at word).0; place = (variable_at word).1 })
    (op.Load address) found outcome.Quiet ≡ false)
no_life zero i found creator slot address below = (refl, refl)
no_life (suc zero) i found creator slot address below = (refl, refl)
no_life (suc (suc zero)) i found creator slot address below = (refl, refl)
no_life (suc (suc (suc zero))) i found creator slot address below = (refl, refl)
no_life (suc (suc (suc (suc zero)))) i found creator slot address below = (refl, refl)
no_life (suc (suc (suc (suc (suc zero))))) i found creator slot address below = (refl, refl)
no_life (suc (suc (suc (suc (suc (suc zero)))))) i found creator slot address below = (refl, refl)
no_life (suc (suc (suc (suc (suc (suc (suc zero))))))) i found creator slot address below = (refl, refl)
no_life (suc (suc (suc (suc (suc (suc (suc (suc n)))))))) i found creator slot address below =
    absurd (omega (arith, below))

module _ (p : Program) (w : List ℕ) (m : Memory) (events : List (ℕ × Event)) (s : State) (actors : ℕ → Actor)
    (i : ℕ) (before : Before p w m events s actors i) (h : Watch) where
  abbrev a : Actor
  a = actors i

  -- the step at this counter keeps its parts
  abbrev Keeps : TeamCounter → Type 0
  Keeps c = PartsKeep w m s i (team_next p w a c) (λ old. (team_moved p w a c old, team_outcome p w a c old)) h

  mine : (actors i).thread ≡ i
  mine = (own p w m events s actors i before).thread

  module _ (c : TeamCounter) (at : (actors i).counter ≡ counter.Team c) where
    any : (x : RecordWord) × IsOn w (team_next p w (actors i) c) x
    any = some_word p w m events s actors i before (counter.Team c) at

    -- a quiet store
    stores : IsCalm h.search → (address word : ℕ) → team_next p w (actors i) c ≡ op.Store address word
        → (b : Actor) → Rests b.counter
        → (x : RecordWord) × IsOn w (op.Store address word) x × KeepsParts w m s i (op.Store address word) x (b, outcome.Quiet) h
    stores calm address word is b rests =
        let (x, on) = any in
        (x, subst (λ o. IsOn w o x) is on, quiet_rests w m s i (op.Store address word) x b h calm refl refl rests)

  -- no search stands behind these
  rests_team : (c : TeamCounter) → region_found (counter.Team c) ≡ None → task_found (counter.Team c) ≡ None
      → ((a : Actor) → IsFirst (sought a (counter.Team c))) → Rests (counter.Team c)
  rests_team c no_region no_task first =
      record { fresh = record { region = no_region; task = no_task; first = first }; look = λ a h. tt }

  rests_assigning : (member : ℕ) (b : Actor) → Rests b.counter → Rests (assigning_from p member b).counter
  rests_assigning member b now =
      rests_actor (nat_lt member (team_size b)) (to_team (team.Assign member) b) (back_to_work p b)
      (rests_team (team.Assign member) refl refl (λ a. tt)) (rests_working p b (λ none. now))

  rests_two : (b : Bool) (c d : TeamCounter) → Rests (counter.Team c) → Rests (counter.Team d)
      → Rests (counter.Team (if b then c else d))
  rests_two b c d one other = one_of (λ (x : TeamCounter). Rests (counter.Team x)) b c d one other

  -- ---- the searches

  module _ (slot : ℕ) (at : (actors i).counter ≡ counter.Team (team.LoadRegionLife slot))
      (given : IsSearchGiven (actors i) (counter.Team (team.LoadRegionLife slot)) h.search) where
    abbrev x : RecordWord
    x = own_life (actors i) RegionLife slot

    one_region : MayOweRegion w m s i
    one_region = (
      is_forking p w m events s actors i before (team.LoadRegionLife slot) at refl (fits p w m events s actors i before (team.LoadRegionLife slot) at).0,
      no_region_owed w m s (all_owed actors) before.rule.words i before.known
          (ap (λ (o : Owed). o.region) (owes p w m events s actors i before (team.LoadRegionLife slot) at)),
    )

    by_region : (b : Bool) → is_free (found_in m x) ≡ b
        → KeepsParts w m s i (op.Load (of_place w (own_place a slot) RegionLife)) x (
          to_team
              (if b then team.TakeRegion (record { 0 = object_in (own_place a slot) (found_in m x) })
              else team.LoadRegionLife (next_slot w regions slot))
              a,
          if b then outcome.Quiet else outcome.NotReady (of_place w (own_place a slot) RegionLife) (found_in m x),
        ) h
    by_region true free =
        region_found_free w m s i a mine h _ slot given.expected given.region given.task
        (to_team (team.TakeRegion (record { 0 = object_in (own_place a slot) (found_in m x) })) a) refl free refl tt tt
    by_region false taken =
        region_passed w m s i a mine h _ slot given.expected given.region given.task
        (to_team (team.LoadRegionLife (next_slot w regions slot)) a) refl _
        (placed p w m events s actors i before (team.LoadRegionLife slot) at) one_region refl refl tt

    region_search : Keeps (team.LoadRegionLife slot)
    region_search = (
      x,
      record {
        there = record_word p w m events s actors i before regions (actors i).thread slot RegionLife refl
            (record {
              made_by = own_maker p w m events s actors i before;
              within = placed p w m events s actors i before (team.LoadRegionLife slot) at;
            });
        address = refl;
      },
      by_region (is_free (found_in m x)) refl,
    )

  module _ (r : Rid) (member slot : ℕ)
      (at : (actors i).counter ≡ counter.Team (team.LoadTaskLife r member slot))
      (given : IsSearchGiven (actors i) (counter.Team (team.LoadTaskLife r member slot)) h.search) where
    abbrev y : RecordWord
    y = own_life (actors i) TaskLife slot

    -- the team is this thread and those that were got
    got : length (actors i).gathered.team ≡ length (got_threads (s.threads i).asks) + 1
    got =
        let joined =
        (row p w m events s actors i before (team.LoadTaskLife r member slot) at).0.asks.joined in
        let same = ap length joined in
        let long = length-map (actors i).gathered.team (λ (m : Tid × ℕ). m.1) in
        omega (arith, same, long)

    one_task : MayOweTask w m s i
    one_task = inr (
      is_forking p w m events s actors i before (team.LoadTaskLife r member slot) at refl
          (fits p w m events s actors i before (team.LoadTaskLife r member slot) at).0.0.0,
      (let most = tasks_owed w m s (all_owed actors) before.rule.words i before.known in
          let few = first_few member (tasks_of (actors i).gathered.team) in
          let same =
          ap (λ (o : Owed). length o.tasks)
          (owes p w m events s actors i before (team.LoadTaskLife r member slot) at) in
          let one = (fits p w m events s actors i before (team.LoadTaskLife r member slot) at).1 in
          let all = got in
          omega (arith, most, few, same, one, all)),
    )

    by_task : (b : Bool) → is_free (found_in m y) ≡ b
        → KeepsParts w m s i (op.Load (of_place w (own_place a slot) TaskLife)) y (
          to_team
              (if b then team.TakeTask r member (record { 0 = object_in (own_place a slot) (found_in m y) })
              else team.LoadTaskLife r member (next_slot w tasks slot))
              a,
          if b then outcome.Quiet else outcome.NotReady (of_place w (own_place a slot) TaskLife) (found_in m y),
        ) h
    by_task true free =
        task_found_free w m s i a mine h _ slot given.expected given.region given.task
        (to_team (team.TakeTask r member (record { 0 = object_in (own_place a slot) (found_in m y) })) a) refl free refl tt tt
    by_task false taken =
        task_passed w m s i a mine h _ slot given.expected given.region given.task
        (to_team (team.LoadTaskLife r member (next_slot w tasks slot)) a) refl _
        (placed p w m events s actors i before (team.LoadTaskLife r member slot) at).1 one_task refl refl tt

    task_search : Keeps (team.LoadTaskLife r member slot)
    task_search = (
      y,
      record {
        there = record_word p w m events s actors i before tasks (actors i).thread slot TaskLife refl
            (record {
              made_by = own_maker p w m events s actors i before;
              within = (placed p w m events s actors i before (team.LoadTaskLife r member slot) at).1;
            });
        address = refl;
      },
      by_task (is_free (found_in m y)) refl,
    )

  -- ---- each step

  pub team_parts : (c : TeamCounter) (at : (actors i).counter ≡ counter.Team c)
      → IsSearchGiven (actors i) (counter.Team c) h.search
      → PartsKeep w m s i (team_next p w (actors i) c)
      (λ old. (team_moved p w (actors i) c old, team_outcome p w (actors i) c old)) h
  team_parts team.OverheadState at given =
      let (x, on) = any team.OverheadState at in (
        x,
        on,
        event_rests w m s i _ x _ h (calm_at a (counter.Team team.OverheadState) h.search refl refl refl given) _
            (rests_team team.LoadLevels refl refl (λ a. tt)),
      )
  team_parts team.LoadLevels at given = (
    word_of a.context.region.0.creator a.context.region.0.slot RegionLevels,
    record {
      there = record_word p w m events s actors i before regions a.context.region.0.creator a.context.region.0.slot RegionLevels refl
          (context_placed p w m events s actors i before team.LoadLevels at).region;
      address = refl;
    },
    quiet_rests w m s i _ (word_of a.context.region.0.creator a.context.region.0.slot RegionLevels) _ h
        (calm_at a (counter.Team team.LoadLevels) h.search refl refl refl given) refl refl (rests_team team.LoadActive refl refl (λ a. tt)),
  )
  team_parts team.LoadActive at given = (
    word_of a.context.region.0.creator a.context.region.0.slot RegionActive,
    record {
      there = record_word p w m events s actors i before regions a.context.region.0.creator a.context.region.0.slot RegionActive refl
          (context_placed p w m events s actors i before team.LoadActive at).region;
      address = refl;
    },
    quiet_rests w m s i _ (word_of a.context.region.0.creator a.context.region.0.slot RegionActive) _ h
        (calm_at a (counter.Team team.LoadActive) h.search refl refl refl given) refl refl (rests_team (team.LoadVariable 0) refl refl (λ a. tt)),
  )
  team_parts (team.LoadVariable word) at given =
      let k = (actors i).context.task.0 in
      let below = (fits p w m events s actors i before (team.LoadVariable word) at).1 in
      let x : RecordWord = record { creator = k.creator; slot = k.slot; field = (variable_at word).0; place = (variable_at word).1 } in
      let (no_region, no_task) = no_life word i (found_in m x) k.creator k.slot (of_variable w k word) below in (
        x,
        record { there = variable_word w k word below (context_placed p w m events s actors i before (team.LoadVariable word) at).task; address = refl },
        quiet_rests w m s i (op.Load (of_variable w k word)) x _ h
            (calm_at a (counter.Team (team.LoadVariable word)) h.search refl refl refl given) no_region no_task
            (rests_two (nat_lt (word + 1) VARIABLE_WORDS) (team.LoadVariable (word + 1)) team.Want
            (rests_team (team.LoadVariable (word + 1)) refl refl (λ a. tt)) (rests_team team.Want refl refl (λ a. tt))),
      )
  team_parts team.Want at given =
      let (x, on) = any team.Want at in (
        x,
        on,
        event_rests w m s i _ x _ h (calm_at a (counter.Team team.Want) h.search refl refl refl given) _
            (rests_two _ team.Ask (team.LoadRegionLife 0) (rests_team team.Ask refl refl (λ a. tt)) (rests_team (team.LoadRegionLife 0) refl refl (λ a. refl))),
      )
  team_parts team.Ask at given =
      let (x, on) = any team.Ask at in (
        x,
        on,
        event_rests w m s i _ x _ h (calm_at a (counter.Team team.Ask) h.search refl refl refl given) _
            (rests_two _ team.Ask (team.LoadRegionLife 0) (rests_team team.Ask refl refl (λ a. tt)) (rests_team (team.LoadRegionLife 0) refl refl (λ a. refl))),
      )
  team_parts (team.LoadRegionLife slot) at given = region_search slot at given
  team_parts (team.TakeRegion r) at given = (
    word_of r.0.creator r.0.slot RegionLife,
    record {
      there = record_word p w m events s actors i before regions r.0.creator r.0.slot RegionLife refl
          (placed p w m events s actors i before (team.TakeRegion r) at);
      address = refl;
    },
    region_taken w m s i a mine h _ r.0 _ ((fits p w m events s actors i before (team.TakeRegion r) at).1 ∙ mine)
        (either_none given.expected) given.region given.task (rests_team (team.FillRegion r 0) refl refl (λ a. tt)),
  )
  team_parts (team.FillRegion r word) at given =
      stores (team.FillRegion r word) at
      (calm_at a (counter.Team (team.FillRegion r word)) h.search refl refl refl given) _ _ refl _
      (rests_two (nat_lt (word + 1) REGION_WORDS) (team.FillRegion r (word + 1)) (team.LoadTaskLife r 0 0)
      (rests_team (team.FillRegion r (word + 1)) refl refl (λ a. tt)) (rests_team (team.LoadTaskLife r 0 0) refl refl (λ a. refl)))
  team_parts (team.LoadTaskLife r member slot) at given = task_search r member slot at given
  team_parts (team.TakeTask r member t) at given = (
    word_of t.0.creator t.0.slot TaskLife,
    record {
      there = record_word p w m events s actors i before tasks t.0.creator t.0.slot TaskLife refl
          (placed p w m events s actors i before (team.TakeTask r member t) at).1;
      address = refl;
    },
    task_taken w m s i a mine h _ t.0 _ ((fits p w m events s actors i before (team.TakeTask r member t) at).2 ∙ mine)
        (either_none given.expected) given.region given.task (rests_team (team.FillTask r member t 0) refl refl (λ a. tt)),
  )
  team_parts (team.FillTask r member t word) at given =
      stores (team.FillTask r member t word) at
      (calm_at a (counter.Team (team.FillTask r member t word)) h.search refl refl refl given) _ _ refl _
      (rests_two (nat_lt (word + 1) TASK_WORDS) (team.FillTask r member t (word + 1)) (team.StoreMember r member t)
      (rests_team (team.FillTask r member t (word + 1)) refl refl (λ a. tt)) (rests_team (team.StoreMember r member t) refl refl (λ a. tt)))
  team_parts (team.StoreMember r member t) at given =
      stores (team.StoreMember r member t) at
      (calm_at a (counter.Team (team.StoreMember r member t)) h.search refl refl refl given) _ _ refl _
      (rests_two (nat_lt (member + 1) (team_size a)) (team.LoadTaskLife r (member + 1) 0) (team.Fork r)
      (rests_team (team.LoadTaskLife r (member + 1) 0) refl refl (λ a. refl)) (rests_team (team.Fork r) refl refl (λ a. tt)))
  team_parts (team.Fork r) at given =
      let (x, on) = any (team.Fork r) at in (
        x,
        on,
        event_rests w m s i _ x _ h (calm_at a (counter.Team (team.Fork r)) h.search refl refl refl given) _
            (rests_assigning 1 (begun_master (region_function p a) (master_context a r) a)
            (subst Rests (sym at) (rests_team (team.Fork r) refl refl (λ a. tt)))),
      )
  team_parts (team.Assign member) at given =
      stores (team.Assign member) at
      (calm_at a (counter.Team (team.Assign member)) h.search refl refl refl given) _ _ refl _
      (rests_assigning (member + 1) a (subst Rests (sym at) (rests_team (team.Assign member) refl refl (λ a. tt))))
