-- The records of the members' tasks are taken and filled, and stored into the team of the region.
use Rattle.std.proofs.Common.{◌≡◌, ◌≢◌, ◌+◌, ◌*◌, ◌==◌, ◌<◌, ℕ, Bool, true, false, List, [], ◌∷◌, ◌++◌, take, Some, refl, sym, ap, ◌∙◌, subst, arith, eq-eqb, eqb-true, nat_lt, length, ltb-true, if◌then◌else◌}
use Rattle.omi_rule.proofs.Owing.{owed_after}
use Rattle.omi_rule.proofs.RowsStay.{Spares, of_member as of_members}
use Rattle.omi_rule.specs.Rule.{KeepsThread}
use Rattle.omi_step_words.proofs.Rising.{task_stores}
use Rattle.omi_step_words.specs.Plan.{filling, task_plan}
use Rattle.omi_step_words.specs.Moving.{to_team}
use Rattle.omi_step_words.specs.declared.plan.Planned.{Planned}
use Rattle.omi_rule_words.proofs.Moves.{moves_keep}
use Rattle.omi_rule_words.proofs.Fills.{region_fills_keep, task_fills_keep}
use Rattle.omi_layout.specs.declared.limits.TheConstants.{FIELDS}
use Rattle.omi_layout.proofs.Arenas.{some_tasks}
use Rattle.std.proofs.lemmas.Bool.Decides.{nat_tests}
use Rattle.omi_word.specs.declared.op.Op.TheVariants as op
use Rattle.omi_script.specs.declared.program.Program.{Program}
use Rattle.omi_model.specs.declared.event.Event.{Event}
use Rattle.omi_model.specs.declared.id.Rid.{Rid}
use Rattle.omi_model.specs.declared.id.Tid.{Tid}
use Rattle.omi_model.specs.Columns.{tasks_of, with_task}
use Rattle.omi_model.specs.Fresh.{IsFresh}
use Rattle.omi_model.specs.State.{State}
use Rattle.omi_layout.specs.declared.field.Field.TheVariants.{RegionTeam, TaskLife}
use Rattle.omi_layout.specs.Field.{regions, tasks}
use Rattle.omi_layout.specs.Memory.{Memory, replace_at, with_word, word_address, Rec}
use Rattle.omi_layout.specs.Named.{number}
use Rattle.omi_layout.specs.Place.{IsSlot}
use Rattle.omi_layout.proofs.Puts.{record_stays, word_stays, word_read}
use Rattle.omi_pc.specs.declared.actor.Actor.{Actor}
use Rattle.omi_pc.specs.declared.counter.Counter.TheVariants as counter
use Rattle.omi_pc.specs.declared.gathered.Gathered.{Gathered}
use Rattle.omi_pc.specs.declared.limits.TheConstants.{TASK_WORDS}
use Rattle.omi_pc.specs.declared.team_counter.TeamCounter.{TeamCounter}
use Rattle.omi_pc.specs.declared.team_counter.TeamCounter.TheVariants as team
use Rattle.omi_pc.specs.Fits.{IsMemberGot}
use Rattle.omi_rep.specs.Records.{task_address}
use Rattle.omi_rep.specs.declared.outcome.Outcome.TheVariants as outcome
use Rattle.omi_rule_words.specs.Counts.{has_slot}
use Rattle.omi_rule_words.specs.Owes.{Owed, all_owed, nothing, owed}
use Rattle.omi_rule_words.specs.Words.{KeepsWords, IsInTheMaking, KeepsMaking}
use Rattle.omi_rule_words.proofs.TaskTakes.{task_takes_keep}
use Rattle.omi_step_words.specs.Members.{member_of}
use Rattle.omi_step_words.specs.Placed.{HasTask, HasRegion}
use Rattle.omi_step_words.specs.Words.{of_task, used_word, of_member}
use Rattle.omi_fork.specs.TeamParts.{planned_region, new_member, team_size}
use Rattle.omi_fork.specs.TeamSteps.{team_moved, team_next, team_outcome}
use Rattle.omi_rule.specs.Rows.{HasFilled, HasGeneration, HasTeam, IsTaskFilled, IsFilled}
use Rattle.omi_rule.specs.Steps.{RecordWord, StepKeeps, KeepsRule, left_in}
use Rattle.omi_rule.proofs.Assembly.{Before, quiet_keeps, spares_own}
use Rattle.omi_rule.proofs.team.Members.{no_slot, threads_known, with_task_here, with_task_other, with_task_size, with_task_taken, with_task_threads, all_taken, slots_apart}
use Rattle.omi_rule.proofs.team.Plans.{region_planned, IsPlannedWord, fill_next, planned_there, task_planned}
use Rattle.omi_rule.proofs.team.Records.{filled_goes, team_goes}
use Rattle.omi_rule.proofs.team.Within.{fits, going, goes_on, own, owes, placed, row}

-- the tasks of the first members stay where another record of a task has a word stored
tasks_stay : (m : Memory) (i slot f at v creator other : ℕ) → other ≢ slot
    → with_word m i tasks slot f at v creator tasks other ≡ m creator tasks other
tasks_stay m i slot f at v creator other apart =
    record_stays m i tasks slot f at v creator tasks other (λ _ _ same. apart same)

-- the record of the next member's task stands filled, and its word in the team
filled_more : (p : Program) (w : List ℕ) (m : Memory) (a : Actor) (r : Rid) (k : ℕ) → HasFilled p w m a r k
    → IsTaskFilled p w m a r k (member_of a.gathered.team k).0 TASK_WORDS
    → HasGeneration (member_of a.gathered.team k).0.0 → HasTask w (member_of a.gathered.team k).0
    → m r.0.creator regions r.0.slot (number RegionTeam) k ≡ task_address w (member_of a.gathered.team k).0 → HasFilled p w m a r (k + 1)
filled_more p w m a r k o last below slot word = record {
  below = o.below;
  region = o.region;
  tasks = λ j less. each (λ l. IsTaskFilled p w m a r l (member_of a.gathered.team l).0 TASK_WORDS) o.tasks last j less;
  tasks_below = λ j less. each (λ l. HasGeneration (member_of a.gathered.team l).0.0) o.tasks_below below j less;
  slots = λ j less. each (λ l. HasTask w (member_of a.gathered.team l).0) o.slots slot j less;
  team = λ j less. each (λ l. m r.0.creator regions r.0.slot (number RegionTeam) l ≡ task_address w (member_of a.gathered.team l).0) o.team word j less;
}
  where
    each : (P : ℕ → Type 0) → ((j : ℕ) → j < k → P j) → P k → (j : ℕ) → j < k + 1 → P j
    each P before here j less = go (j == k) refl
      where
        go : (b : Bool) → j == k ≡ b → P j
        go true e = subst P (sym (eqb-true j k e)) here
        go false e =
            let apart : j ≢ k = (λ same. cc (sym (eq-eqb j k same), e)) in before j (omega (arith, less, apart))

module _ (p : Program) (w : List ℕ) (m : Memory) (events : List (ℕ × Event)) (s : State) (actors : ℕ → Actor)
    (i : ℕ) (before : Before p w m events s actors i) (r : Rid) (member : ℕ) (t : Tid) where
  module _ (at : (actors i).counter ≡ counter.Team (team.TakeTask r member t)) where
    abbrev C : TeamCounter
    C = team.TakeTask r member t

    abbrev X : RecordWord
    X = record { creator = i; slot = t.0.slot; field = TaskLife; place = 0 }

    abbrev Team : List (Tid × ℕ)
    Team = with_task t member (actors i).gathered.team

    abbrev Got : Gathered
    Got = record (actors i).gathered { team = with_task t member (actors i).gathered.team }

    abbrev Then : Actor
    Then =
        going (team.FillTask r member t 0)
        (record (actors i).gathered { team = with_task t member (actors i).gathered.team }) (actors i)

    abbrev N : Memory
    N = with_word m i tasks t.0.slot (number TaskLife) 0 (2 * t.0.generation + 1)

    fresh : IsFresh s.tasks i t.0
    fresh = (row p w m events s actors i before C at).2

    got : IsMemberGot p (actors i) r member t
    got = fits p w m events s actors i before C at

    taken : KeepsWords w N s (all_owed (replace_at actors i Then))
    taken =
        let o : owed (actors i) ≡ record nothing { region = Some r; tasks = take member (tasks_of (actors i).gathered.team) } =
        owes p w m events s actors i before C at in
        owed_after w N s actors i Then
        (record nothing { region = Some r; tasks = take member (tasks_of (actors i).gathered.team) ++ t ∷ [] })
        (ap (λ ks. record nothing { region = Some r; tasks = ks }) (with_task_taken t member (actors i).gathered.team got.1))
        (subst (λ (x : Owed). KeepsWords w N s (replace_at (all_owed actors) i (record x { tasks = x.tasks ++ t ∷ [] }))) o
        (task_takes_keep w m s (all_owed actors) i t before.rule.words (record { maker = fresh.creator; free = fresh.empty; next = fresh.next })
        (ap (λ (x : Owed). has_slot t.0.slot x.tasks) o ∙ (row p w m events s actors i before C at).3)))

    pub task_take_keeps : StepKeeps p w m events s actors i (team_next p w (actors i) C) (λ old. (team_moved p w (actors i) C old, team_outcome p w (actors i) C old))
    task_take_keeps =
        let (there_region, there) = placed p w m events s actors i before C at in
        let asks : HasTeam s i (actors i) = (row p w m events s actors i before C at).0 in
        let size = with_task_size t member (actors i).gathered.team in (
          X,
          record {
            there = record { field = record { from = omega arith; to = omega arith }; record_slot = subst (λ j. IsSlot w tasks j t.0.slot) fresh.creator there; within = omega arith };
            address = ap (λ j. word_address w j t.0.slot (number TaskLife) 0) fresh.creator;
          },
          quiet_keeps p w m events s actors i before (op.Store (of_task w t TaskLife) (used_word t.0)) X
              (Then, outcome.Quiet) refl taken
              (λ j other. spares_own m s i tasks t.0.slot (number TaskLife) 0 (2 * t.0.generation + 1) j (actors j) other (λ _. fresh.empty))
              (goes_on p w m events s actors i before C at N (team.FillTask r member t 0) Got (own p w m events s actors i before C at).fits.variables refl
              (((((got.0.0.0, (let h = got.0.0.1 in omega (arith, h, size)), (let h = got.0.0.2 in omega (arith, h, size))), got.0.1), (let h = got.1 in omega (arith, h, size)), got.2)), omega arith) (
                there_region,
                there,
                λ j within.
                    let count = before.rule.within.count in
                    let known = before.known in
                    subst (λ c. (member_of Team j).1 < c) count (threads_known i (actors i).gathered.asked s.count (s.threads i).asks Team known asks.asks.few asks.asks.asked (with_task_threads t member (actors i).gathered.team ∙ asks.asks.joined) j within),
              ) (
                team_goes s i (actors i) (team.FillTask r member t 0) Team (with_task_threads t member (actors i).gathered.team) asks,
                filled_goes p w m N (actors i) r member (team.FillTask r member t 0) Team size
                    (λ j below. with_task_other t member (actors i).gathered.team j below)
                    (λ j below. let kind = (region_planned w (planned_region p (actors i)) j below).kind_is in word_stays m i tasks t.0.slot (number TaskLife) 0 (2 * t.0.generation + 1) r.0.creator regions r.0.slot _ _ (λ _ other _ _ _. absurd (omega (arith, other))))
                    (λ j below. tasks_stay m i t.0.slot (number TaskLife) 0 (2 * t.0.generation + 1) _ _ (no_slot t.0.slot member (actors i).gathered.team j (row p w m events s actors i before C at).3 below (let h = got.1 in omega (arith, h, below))))
                    (λ j below. word_stays m i tasks t.0.slot (number TaskLife) 0 (2 * t.0.generation + 1) r.0.creator regions r.0.slot (number RegionTeam) j (λ _ other _ _ _. absurd (omega (arith, other))))
                    (row p w m events s actors i before C at).1,
                with_task_here t member (actors i).gathered.team got.1,
                fresh.below,
                λ j below. absurd (omega (arith, below)),
              )),
        )

  module _ (word : ℕ) (at : (actors i).counter ≡ counter.Team (team.FillTask r member t word)) where
    abbrev D : TeamCounter
    D = team.FillTask r member t word

    abbrev Word : Planned
    Word = task_plan w (new_member p (actors i) r member) word

    abbrev Y : RecordWord
    Y = record { creator = i; slot = t.0.slot; field = (task_plan w (new_member p (actors i) r member) word).field; place = (task_plan w (new_member p (actors i) r member) word).at }

    abbrev After : Memory
    After =
        with_word m i tasks t.0.slot (number (task_plan w (new_member p (actors i) r member) word).field)
        (task_plan w (new_member p (actors i) r member) word).at
        (task_plan w (new_member p (actors i) r member) word).value

    fill_got : IsMemberGot p (actors i) r member t
    fill_got = (fits p w m events s actors i before D at).0

    below : word < TASK_WORDS
    below = (fits p w m events s actors i before D at).1

    planned : IsPlannedWord w tasks (number TaskLife) (FIELDS + 1) Word
    planned = task_planned w (new_member p (actors i) r member) word before.suits.groups below

    made : KeepsMaking s i (record nothing { region = Some r; tasks = take (member + 1) (tasks_of (actors i).gathered.team) })
    made =
        subst (KeepsMaking s i) (owes p w m events s actors i before D at)
        (before.rule.words.made i before.known).making

    -- it is the task of this member
    is_its : (member_of (actors i).gathered.team member).0 ≡ t
    is_its = (row p w m events s actors i before D at).2

    making : IsInTheMaking i (s.tasks i) t.0
    making =
        subst (λ (k : Tid). IsInTheMaking i (s.tasks i) k.0) is_its
        (of_members (λ (k : Tid). IsInTheMaking i (s.tasks i) k.0) (actors i).gathered.team (member + 1) member made.tasks (omega arith) fill_got.1)

    others_apart : (j : ℕ) → j < member → (member_of (actors i).gathered.team j).0.0.slot ≢ t.0.slot
    others_apart j less =
        subst (λ (k : Tid). (member_of (actors i).gathered.team j).0.0.slot ≢ k.0.slot) is_its
        (slots_apart member (actors i).gathered.team j made.apart less fill_got.1)

    left : left_in m (filling w t.0 Word) Y ≡ After
    left = ap (λ kind. with_word m i kind t.0.slot (number Word.field) Word.at Word.value) planned.kind_is

    words_filled : IsTaskFilled p w After (actors i) r member t (word + 1)
    words_filled =
        subst
        (λ c. IsFilled (After c tasks t.0.slot) (task_plan w (new_member p (actors i) r member)) (word + 1))
        (sym making.maker)
        (fill_next (m i tasks t.0.slot) (After i tasks t.0.slot) (task_plan w (new_member p (actors i) r member)) word TASK_WORDS
        (word_read m i tasks t.0.slot (number Word.field) Word.at Word.value)
        (λ f k apart. word_stays m i tasks t.0.slot (number Word.field) Word.at Word.value i tasks t.0.slot f k (λ _ _ _ field place. apart field place))
        (task_stores w (new_member p (actors i) r member)) below
        (subst (λ c. IsFilled (m c tasks t.0.slot) (task_plan w (new_member p (actors i) r member)) word) making.maker (row p w m events s actors i before D at).4))

    stored : (b : Actor) → owed b ≡ owed (actors i) → KeepsWords w After s (all_owed (replace_at actors i b))
    stored b same =
        moves_keep w After s actors i b
        (task_fills_keep w m s (all_owed actors) i t.0.slot Word.field Word.at Word.value before.rule.words making.free (let above = planned.above in λ life. absurd (omega (arith, above, life)))) same

    others_filled : (next : TeamCounter)
        → HasFilled p w After (going next (actors i).gathered (actors i)) r member
    others_filled next =
        filled_goes p w m After (actors i) r member next (actors i).gathered.team refl (λ j less. refl)
        (λ j less. word_stays m i tasks t.0.slot (number Word.field) Word.at Word.value r.0.creator regions r.0.slot _ _ (λ _ other _ _ _. absurd (omega (arith, other))))
        (λ j less. tasks_stay m i t.0.slot (number Word.field) Word.at Word.value _ _ (others_apart j less))
        (λ j less. word_stays m i tasks t.0.slot (number Word.field) Word.at Word.value r.0.creator regions r.0.slot (number RegionTeam) j (λ _ other _ _ _. absurd (omega (arith, other))))
        (row p w m events s actors i before D at).1

    pub task_fill_keeps : StepKeeps p w m events s actors i (team_next p w (actors i) D) (λ old. (team_moved p w (actors i) D old, team_outcome p w (actors i) D old))
    task_fill_keeps = (
      Y,
      record {
        there = planned_there w tasks (number TaskLife) (FIELDS + 1) i t.0.slot Word (omega arith) (subst (λ j. IsSlot w tasks j t.0.slot) making.maker (placed p w m events s actors i before D at).1) planned;
        address = ap (λ j. word_address w j t.0.slot (number Word.field) Word.at) making.maker;
      },
      go (nat_lt (word + 1) TASK_WORDS) refl,
    )
      where
        asks : HasTeam s i (actors i)
        asks = (row p w m events s actors i before D at).0

        step : (b : Actor) → owed b ≡ owed (actors i) → KeepsThread p w After events s i b
            → KeepsRule p w m events s actors i (filling w t.0 Word) Y (b, outcome.Quiet)
        step b same thread =
            quiet_keeps p w m events s actors i before (filling w t.0 Word) Y (b, outcome.Quiet) refl
            (subst (λ (n : Memory). KeepsWords w n s (all_owed (replace_at actors i b))) (sym left) (stored b same))
            (λ j other. subst (λ (n : Memory). Spares m n s j (actors j)) (sym left) (spares_own m s i tasks t.0.slot (number Word.field) Word.at Word.value j (actors j) other (λ _. making.free)))
            (subst (λ (n : Memory). KeepsThread p w n events s i b) (sym left) thread)

        go : (b : Bool) → nat_lt (word + 1) TASK_WORDS ≡ b
            → KeepsRule p w m events s actors i (filling w t.0 Word) Y (to_team (if b then team.FillTask r member t (word + 1) else team.StoreMember r member t) (actors i), outcome.Quiet)
        go true e =
            let next : TeamCounter = team.FillTask r member t (word + 1) in
            step (to_team next (actors i)) (sym (owes p w m events s actors i before D at))
            (goes_on p w m events s actors i before D at After next (actors i).gathered (own p w m events s actors i before D at).fits.variables refl
            (fill_got, ltb-true (word + 1) TASK_WORDS e)
            (placed p w m events s actors i before D at)
            (team_goes s i (actors i) next (actors i).gathered.team refl asks, others_filled next, is_its, (row p w m events s actors i before D at).3, words_filled))
        go false e =
            let all : word + 1 ≡ TASK_WORDS = (let h = below in grind (arith, nat_tests, h)) in
            let next : TeamCounter = team.StoreMember r member t in
            step (to_team next (actors i)) (sym (owes p w m events s actors i before D at))
            (goes_on p w m events s actors i before D at After next (actors i).gathered (own p w m events s actors i before D at).fits.variables refl
            fill_got
            ((placed p w m events s actors i before D at).0, (placed p w m events s actors i before D at).1)
            (team_goes s i (actors i) next (actors i).gathered.team refl asks, others_filled next, is_its, (row p w m events s actors i before D at).3, subst (IsTaskFilled p w After (actors i) r member t) all words_filled))

  module _ (at : (actors i).counter ≡ counter.Team (team.StoreMember r member t)) where
    abbrev E : TeamCounter
    E = team.StoreMember r member t

    abbrev Z : RecordWord
    Z = record { creator = i; slot = r.0.slot; field = RegionTeam; place = member }

    abbrev Stored : Memory
    Stored = with_word m i regions r.0.slot (number RegionTeam) member (task_address w t)

    store_got : IsMemberGot p (actors i) r member t
    store_got = fits p w m events s actors i before E at

    its : (member_of (actors i).gathered.team member).0 ≡ t
    its = (row p w m events s actors i before E at).2

    region_making : IsInTheMaking i (s.regions i) r.0
    region_making =
        (before.rule.words.made i before.known).making.region r
        (ap (λ (x : Owed). x.region) (owes p w m events s actors i before E at))

    -- the words of all members so far
    now_filled : (next : TeamCounter)
        → HasFilled p w Stored (going next (actors i).gathered (actors i)) r (member + 1)
    now_filled next =
        filled_more p w Stored (going next (actors i).gathered (actors i)) r member
        (filled_goes p w m Stored (actors i) r member next (actors i).gathered.team refl (λ j less. refl)
        (λ j less. word_stays m i regions r.0.slot (number RegionTeam) member (task_address w t) r.0.creator regions r.0.slot _ _ (let last = (region_planned w (planned_region p (actors i)) j less).below in λ _ _ _ field _. absurd (omega (arith, last, field))))
        (λ j less. record_stays m i regions r.0.slot (number RegionTeam) member (task_address w t) _ tasks _ (λ _ other _. absurd (omega (arith, other))))
        (λ j less. word_stays m i regions r.0.slot (number RegionTeam) member (task_address w t) r.0.creator regions r.0.slot (number RegionTeam) j (λ _ _ _ _ place. absurd (omega (arith, less, place))))
        (row p w m events s actors i before E at).1)
        (subst (λ (k : Tid). IsTaskFilled p w Stored (actors i) r member k TASK_WORDS) (sym its)
        (λ j less. ap (λ (x : Rec). x (number (task_plan w (new_member p (actors i) r member) j).field) (task_plan w (new_member p (actors i) r member) j).at)
        (record_stays m i regions r.0.slot (number RegionTeam) member (task_address w t) t.0.creator tasks t.0.slot (λ _ other _. absurd (omega (arith, other)))) ∙ (row p w m events s actors i before E at).4 j less))
        (subst (λ (k : Tid). HasGeneration k.0) (sym its) (row p w m events s actors i before E at).3)
        (subst (HasTask w) (sym its) (placed p w m events s actors i before E at).1)
        (subst (λ (k : Tid). Stored r.0.creator regions r.0.slot (number RegionTeam) member ≡ task_address w k) (sym its)
        (subst (λ c. Stored c regions r.0.slot (number RegionTeam) member ≡ task_address w t) (sym region_making.maker) (word_read m i regions r.0.slot (number RegionTeam) member (task_address w t))))

    member_stored : (b : Actor) → owed b ≡ owed (actors i)
        → KeepsWords w Stored s (all_owed (replace_at actors i b))
    member_stored b same =
        moves_keep w Stored s actors i b
        (region_fills_keep w m s (all_owed actors) i r.0.slot RegionTeam member (task_address w t) before.rule.words region_making.free (λ life. absurd (omega (arith, life)))) same

    pub member_store_keeps : StepKeeps p w m events s actors i (team_next p w (actors i) E) (λ old. (team_moved p w (actors i) E old, team_outcome p w (actors i) E old))
    member_store_keeps = (
      Z,
      record {
        there = record {
          field = record { from = omega arith; to = omega arith };
          record_slot = subst (λ j. IsSlot w regions j r.0.slot) region_making.maker there;
          within = (let few = store_got.0.0.2 in let less = store_got.1 in let same = before.suits.threads in omega (arith, few, less, same));
        };
        address = ap (λ j. word_address w j r.0.slot (number RegionTeam) member) region_making.maker;
      },
      go (nat_lt (member + 1) (team_size (actors i))) refl,
    )
      where
        there : HasRegion w r
        there = (placed p w m events s actors i before E at).0

        asks : HasTeam s i (actors i)
        asks = (row p w m events s actors i before E at).0

        step : (b : Actor) → owed b ≡ owed (actors i) → KeepsThread p w Stored events s i b
            → KeepsRule p w m events s actors i (op.Store (of_member w r member) (task_address w t)) Z (b, outcome.Quiet)
        step b same thread =
            quiet_keeps p w m events s actors i before (op.Store (of_member w r member) (task_address w t)) Z
            (b, outcome.Quiet) refl
            (member_stored b same)
            (λ j other. spares_own m s i regions r.0.slot (number RegionTeam) member (task_address w t) j (actors j) other (λ kind. absurd (omega (arith, kind)))) thread

        go : (b : Bool) → nat_lt (member + 1) (team_size (actors i)) ≡ b
            → KeepsRule p w m events s actors i (op.Store (of_member w r member) (task_address w t)) Z
            (to_team (if b then team.LoadTaskLife r (member + 1) 0 else team.Fork r) (actors i), outcome.Quiet)
        go true e =
            let next : TeamCounter = team.LoadTaskLife r (member + 1) 0 in
            step (to_team next (actors i)) (sym (owes p w m events s actors i before E at))
            (goes_on p w m events s actors i before E at Stored next (actors i).gathered (own p w m events s actors i before E at).fits.variables refl
            (store_got.0, ltb-true (member + 1) (team_size (actors i)) e)
            (there, some_tasks w before.valid)
            (team_goes s i (actors i) next (actors i).gathered.team refl asks, now_filled next))
        go false e =
            let all : member + 1 ≡ length (actors i).gathered.team =
            (let h = store_got.1 in grind (arith, nat_tests, h)) in
            let next : TeamCounter = team.Fork r in
            step (to_team next (actors i))
            (ap (λ ks. record nothing { region = Some r; tasks = ks }) (sym (ap (λ k. take k (tasks_of (actors i).gathered.team)) all ∙ all_taken (actors i).gathered.team)) ∙ sym (owes p w m events s actors i before E at))
            (goes_on p w m events s actors i before E at Stored next (actors i).gathered (own p w m events s actors i before E at).fits.variables refl
            store_got.0
            (there, λ j less. (now_filled next).slots j (omega (arith, less)))
            (team_goes s i (actors i) next (actors i).gathered.team refl asks, subst (HasFilled p w Stored (going next (actors i).gathered (actors i)) r) all (now_filled next)))
