-- The record of a region is taken and filled.
use Rattle.std.proofs.Common.{◌≡◌, ◌+◌, ◌*◌, ◌<◌, nat_lt, ℕ, Bool, true, false, List, Some, refl, sym, ap, subst, arith, ltb-true, if◌then◌else◌}
use Rattle.omi_rule.proofs.Owing.{owed_after}
use Rattle.std.proofs.lemmas.Bool.Decides.{nat_tests}
use Rattle.omi_word.specs.declared.op.Op.TheVariants as op
use Rattle.omi_script.specs.declared.program.Program.{Program}
use Rattle.omi_model.specs.declared.event.Event.{Event}
use Rattle.omi_model.specs.declared.id.Rid.{Rid}
use Rattle.omi_model.specs.Fresh.{IsFresh}
use Rattle.omi_model.specs.State.{State}
use Rattle.omi_layout.specs.declared.field.Field.TheVariants.{RegionLife}
use Rattle.omi_layout.specs.Field.{regions}
use Rattle.omi_layout.specs.Memory.{Memory, replace_at, with_word, word_address}
use Rattle.omi_layout.specs.Named.{number}
use Rattle.omi_layout.specs.Place.{IsSlot}
use Rattle.omi_layout.proofs.Arenas.{some_tasks}
use Rattle.omi_layout.proofs.Puts.{word_read, word_stays}
use Rattle.omi_pc.specs.declared.actor.Actor.{Actor}
use Rattle.omi_pc.specs.declared.counter.Counter.TheVariants as counter
use Rattle.omi_pc.specs.declared.limits.TheConstants.{REGION_WORDS}
use Rattle.omi_pc.specs.declared.team_counter.TeamCounter.{TeamCounter}
use Rattle.omi_pc.specs.declared.team_counter.TeamCounter.TheVariants as team
use Rattle.omi_rep.specs.declared.outcome.Outcome.TheVariants as outcome
use Rattle.omi_rule_words.specs.Owes.{Owed, all_owed, nothing, owed}
use Rattle.omi_rule_words.specs.Words.{IsInTheMaking, KeepsWords}
use Rattle.omi_rule_words.proofs.Fills.{region_fills_keep}
use Rattle.omi_rule_words.proofs.Moves.{moves_keep}
use Rattle.omi_rule_words.proofs.RegionTakes.{region_takes_keep}
use Rattle.omi_step_words.specs.declared.plan.Planned.{Planned}
use Rattle.omi_step_words.specs.Moving.{to_team}
use Rattle.omi_step_words.specs.Placed.{HasRegion}
use Rattle.omi_step_words.specs.Plan.{filling, region_plan}
use Rattle.omi_step_words.specs.Words.{of_region, used_word}
use Rattle.omi_step_words.proofs.Rising.{region_stores}
use Rattle.omi_fork.specs.TeamParts.{planned_region}
use Rattle.omi_fork.specs.TeamSteps.{team_moved, team_next, team_outcome}
use Rattle.omi_rule.specs.Rows.{HasTeam, IsFilled, IsRegionFilled}
use Rattle.omi_rule.specs.Rule.{KeepsThread}
use Rattle.omi_rule.specs.Steps.{KeepsRule, RecordWord, StepKeeps, left_in}
use Rattle.omi_rule.proofs.Assembly.{Before, quiet_keeps, spares_own}
use Rattle.omi_rule.proofs.RowsStay.{Spares}
use Rattle.omi_rule.proofs.team.Plans.{IsPlannedWord, fill_next, planned_there, region_planned}
use Rattle.omi_rule.proofs.team.Records.{team_goes}
use Rattle.omi_rule.proofs.team.Within.{fits, going, goes_on, own, owes, placed, row}

module _ (p : Program) (w : List ℕ) (m : Memory) (events : List (ℕ × Event)) (s : State) (actors : ℕ → Actor)
    (i : ℕ) (before : Before p w m events s actors i) where
  module _ (r : Rid) (at : (actors i).counter ≡ counter.Team (team.TakeRegion r)) where
    abbrev C : TeamCounter
    C = team.TakeRegion r

    abbrev X : RecordWord
    X = record { creator = i; slot = r.0.slot; field = RegionLife; place = 0 }

    abbrev Then : Actor
    Then = going (team.FillRegion r 0) (actors i).gathered (actors i)

    abbrev N : Memory
    N = with_word m i regions r.0.slot (number RegionLife) 0 (2 * r.0.generation + 1)

    fresh : IsFresh s.regions i r.0
    fresh = (row p w m events s actors i before C at).1

    taken : KeepsWords w N s (all_owed (replace_at actors i Then))
    taken =
        let o : owed (actors i) ≡ nothing = owes p w m events s actors i before C at in
        owed_after w N s actors i Then (record nothing { region = Some r }) refl
        (subst (λ (x : Owed). KeepsWords w N s (replace_at (all_owed actors) i (record x { region = Some r }))) o
        (region_takes_keep w m s (all_owed actors) i r before.rule.words (ap (λ (x : Owed). x.region) o) (record { maker = fresh.creator; free = fresh.empty; next = fresh.next })))

    pub region_take_keeps : StepKeeps p w m events s actors i (team_next p w (actors i) C) (λ old. (team_moved p w (actors i) C old, team_outcome p w (actors i) C old))
    region_take_keeps =
        let there : HasRegion w r = placed p w m events s actors i before C at in (
          X,
          record {
            there = record { field = record { from = omega arith; to = omega arith }; record_slot = subst (λ j. IsSlot w regions j r.0.slot) fresh.creator there; within = omega arith };
            address = ap (λ j. word_address w j r.0.slot (number RegionLife) 0) fresh.creator;
          },
          quiet_keeps p w m events s actors i before (op.Store (of_region w r RegionLife) (used_word r.0)) X
              (Then, outcome.Quiet) refl taken
              (λ j other. spares_own m s i regions r.0.slot (number RegionLife) 0 (2 * r.0.generation + 1) j (actors j) other (λ kind. absurd (omega (arith, kind))))
              (goes_on p w m events s actors i before C at N (team.FillRegion r 0) (actors i).gathered (own p w m events s actors i before C at).fits.variables refl
              (fits p w m events s actors i before C at, omega arith)
              there
              (team_goes s i (actors i) (team.FillRegion r 0) (actors i).gathered.team refl (row p w m events s actors i before C at).0, fresh.below, λ j below. absurd (omega (arith, below)))),
        )

  module _ (r : Rid) (word : ℕ) (at : (actors i).counter ≡ counter.Team (team.FillRegion r word)) where
    abbrev D : TeamCounter
    D = team.FillRegion r word

    abbrev Word : Planned
    Word = region_plan w (planned_region p (actors i)) word

    abbrev Y : RecordWord
    Y = record { creator = i; slot = r.0.slot; field = (region_plan w (planned_region p (actors i)) word).field; place = (region_plan w (planned_region p (actors i)) word).at }

    abbrev After : Memory
    After =
        with_word m i regions r.0.slot (number (region_plan w (planned_region p (actors i)) word).field)
        (region_plan w (planned_region p (actors i)) word).at
        (region_plan w (planned_region p (actors i)) word).value

    below : word < REGION_WORDS
    below = (fits p w m events s actors i before D at).1

    planned : IsPlannedWord w regions 13 24 Word
    planned = region_planned w (planned_region p (actors i)) word below

    making : IsInTheMaking i (s.regions i) r.0
    making =
        (before.rule.words.made i before.known).making.region r
        (ap (λ (x : Owed). x.region) (owes p w m events s actors i before D at))

    left : left_in m (filling w r.0 Word) Y ≡ After
    left = ap (λ kind. with_word m i kind r.0.slot (number Word.field) Word.at Word.value) planned.kind_is

    filled : IsRegionFilled p w After (actors i) r (word + 1)
    filled =
        subst
        (λ c. IsFilled (After c regions r.0.slot) (region_plan w (planned_region p (actors i))) (word + 1))
        (sym making.maker)
        (fill_next (m i regions r.0.slot) (After i regions r.0.slot) (region_plan w (planned_region p (actors i))) word REGION_WORDS
        (word_read m i regions r.0.slot (number Word.field) Word.at Word.value)
        (λ f k apart. word_stays m i regions r.0.slot (number Word.field) Word.at Word.value i regions r.0.slot f k (λ _ _ _ field place. apart field place))
        (region_stores w (planned_region p (actors i))) below
        (subst (λ c. IsFilled (m c regions r.0.slot) (region_plan w (planned_region p (actors i))) word) making.maker (row p w m events s actors i before D at).2))

    stored : (b : Actor) → owed b ≡ owed (actors i) → KeepsWords w After s (all_owed (replace_at actors i b))
    stored b same =
        moves_keep w After s actors i b
        (region_fills_keep w m s (all_owed actors) i r.0.slot Word.field Word.at Word.value before.rule.words making.free (let above = planned.above in λ life. absurd (omega (arith, above, life)))) same

    pub region_fill_keeps : StepKeeps p w m events s actors i (team_next p w (actors i) D) (λ old. (team_moved p w (actors i) D old, team_outcome p w (actors i) D old))
    region_fill_keeps = (
      Y,
      record {
        there = planned_there w regions 13 24 i r.0.slot Word (omega arith) (subst (λ j. IsSlot w regions j r.0.slot) making.maker there) planned;
        address = ap (λ j. word_address w j r.0.slot (number Word.field) Word.at) making.maker;
      },
      go (nat_lt (word + 1) REGION_WORDS) refl,
    )
      where
        there : HasRegion w r
        there = placed p w m events s actors i before D at

        asks : HasTeam s i (actors i)
        asks = (row p w m events s actors i before D at).0

        step : (b : Actor) → owed b ≡ owed (actors i) → KeepsThread p w After events s i b
            → KeepsRule p w m events s actors i (filling w r.0 Word) Y (b, outcome.Quiet)
        step b same thread =
            quiet_keeps p w m events s actors i before (filling w r.0 Word) Y (b, outcome.Quiet) refl
            (subst (λ (n : Memory). KeepsWords w n s (all_owed (replace_at actors i b))) (sym left) (stored b same))
            (λ j other. subst (λ (n : Memory). Spares m n s j (actors j)) (sym left) (spares_own m s i regions r.0.slot (number Word.field) Word.at Word.value j (actors j) other (λ kind. absurd (omega (arith, kind)))))
            (subst (λ (n : Memory). KeepsThread p w n events s i b) (sym left) thread)

        go : (b : Bool) → nat_lt (word + 1) REGION_WORDS ≡ b
            → KeepsRule p w m events s actors i (filling w r.0 Word) Y (to_team (if b then team.FillRegion r (word + 1) else team.LoadTaskLife r 0 0) (actors i), outcome.Quiet)
        go true e =
            let next : TeamCounter = team.FillRegion r (word + 1) in
            step (to_team next (actors i)) (sym (owes p w m events s actors i before D at))
            (goes_on p w m events s actors i before D at After next (actors i).gathered (own p w m events s actors i before D at).fits.variables refl
            ((fits p w m events s actors i before D at).0, ltb-true (word + 1) REGION_WORDS e)
            there
            (team_goes s i (actors i) next (actors i).gathered.team refl asks, (row p w m events s actors i before D at).1, filled))
        go false e =
            let all : word + 1 ≡ REGION_WORDS = (let h = below in grind (arith, nat_tests, h)) in
            let next : TeamCounter = team.LoadTaskLife r 0 0 in
            let got = (fits p w m events s actors i before D at).0 in
            step (to_team next (actors i)) (sym (owes p w m events s actors i before D at))
            (goes_on p w m events s actors i before D at After next (actors i).gathered (own p w m events s actors i before D at).fits.variables refl
            (got, (let size = got.0.1 in omega (arith, size)))
            (there, some_tasks w before.valid) (
              team_goes s i (actors i) next (actors i).gathered.team refl asks,
              record {
                below = (row p w m events s actors i before D at).1;
                region = subst (IsRegionFilled p w After (actors i) r) all filled;
                tasks = λ j none. absurd (omega (arith, none));
                tasks_below = λ j none. absurd (omega (arith, none));
                slots = λ j none. absurd (omega (arith, none));
                team = λ j none. absurd (omega (arith, none));
              },
            ))
