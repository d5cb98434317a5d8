-- A thread raises the count of the group of a new task, where it has one.
use Rattle.std.proofs.Common.{◌≡◌, ◌+◌, ◌<◌, inl, ℕ, List, [], Option, Some, None, refl, sym, ap, ◌∙◌, subst, arith, ap₂}
use Rattle.std.specs.Prelude.{IsSome}
use Rattle.std.specs.List.{All}
use Rattle.std.proofs.lemmas.List.Elements.{All-head}
use Rattle.omi_numbers.specs.declared.limits.TheConstants.{OPEN_GROUPS}
use Rattle.omi_word.specs.declared.op.Op.TheVariants as op
use Rattle.omi_pc.specs.declared.counter.Counter.TheVariants as counter
use Rattle.omi_pc.specs.declared.task_counter.TaskCounter.TheVariants as task
use Rattle.omi_rep.specs.declared.outcome.Outcome.TheVariants as outcome
use Rattle.omi_script.specs.declared.program.Program.{Program}
use Rattle.omi_model.specs.declared.event.Event.{Event}
use Rattle.omi_model.specs.declared.group.Group.{Group}
use Rattle.omi_model.specs.declared.id.Tid.{Tid}
use Rattle.omi_model.specs.declared.limits.TheConstants.{MOST_EVENTS}
use Rattle.omi_model.specs.declared.task.Task.{Task}
use Rattle.omi_model.specs.Groups.{group_within}
use Rattle.omi_model.specs.State.{State, task_of}
use Rattle.omi_model.proofs.Slots.{found_live, none_some, some_same}
use Rattle.omi_layout.specs.Memory.{Memory, replace_at, word_address}
use Rattle.omi_layout.proofs.Puts.{put_same, record_stays, word_stays}
use Rattle.omi_layout.specs.declared.field.Field.TheVariants.{TaskSlots}
use Rattle.omi_layout.specs.declared.limits.TheConstants.{COUNT_PLACE}
use Rattle.omi_layout.specs.Field.{tasks}
use Rattle.omi_layout.specs.Named.{number}
use Rattle.omi_layout.proofs.SlotWords.{group_word_within}
use Rattle.omi_rep.specs.Records.{group_word}
use Rattle.omi_rule_words.specs.Owes.{Owed, all_owed, owed, with_count, with_reference}
use Rattle.omi_rule_words.specs.Words.{KeepsWords, IsInTheMaking}
use Rattle.omi_rule_words.proofs.CountWords.{no_count_keeps, count_adds_keep}
use Rattle.omi_rule_words.proofs.Defers.{put_twice}
use Rattle.omi_rule_words.specs.BarrierKinds.{one_more}
use Rattle.omi_rule_words.specs.CountKinds.{count_of, with_count_of}
use Rattle.omi_rule_words.proofs.PendingWords.{live_of}
use Rattle.omi_rule_words.proofs.StoredCodes.{place_apart}
use Rattle.omi_pc.specs.declared.actor.Actor.{Actor}
use Rattle.omi_pc.specs.declared.place.Place.{Place}
use Rattle.omi_pc.specs.Fits.{FitsTask, IsTaskGot}
use Rattle.omi_pc.specs.declared.limits.TheConstants.{TASK_WORDS}
use Rattle.omi_pc.specs.declared.task_counter.TaskCounter.{TaskCounter}
use Rattle.omi_step_words.specs.Moving.{to_task}
use Rattle.omi_step_words.specs.Placed.{HasTask, IsPlacedTask}
use Rattle.omi_step_words.specs.Words.{of_group_count}
use Rattle.omi_task.specs.Groups.{new_group}
use Rattle.omi_task.specs.MakingSteps.{behind_raises, making_moved, making_next, making_outcome}
use Rattle.omi_rule.specs.Ahead as Ahead
use Rattle.omi_rule.specs.Ahead.{task_ahead}
use Rattle.omi_rule.specs.Chains.{encounter_of}
use Rattle.omi_rule.specs.Rows.{HasFilledTask, HasPlace, KeepsTaskRow}
use Rattle.omi_rule.specs.Steps.{KeepsRule, RecordWord, StepKeeps}
use Rattle.omi_rule.proofs.Assembly.{Before, quiet_keeps, spares_task}
use Rattle.omi_rule.proofs.CountsFew.{members_few}
use Rattle.omi_rule.proofs.Groups.{index_read, new_group_is, owner_read, some_group, within_lives}
use Rattle.omi_rule.proofs.KeptObjects.{task_there}
use Rattle.omi_rule.proofs.Owing.{owed_after}
use Rattle.omi_rule.proofs.task.Filled.{filled_goes}
use Rattle.omi_rule.proofs.task.Within.{context, fits, going, goes_on, own, owes, placed, row}

-- a new task without a group is counted with nothing
pub no_count : (w : List ℕ) (m : Memory) (s : State) (owes : ℕ → Owed) (i : ℕ) (o : Owed) (k : Tid) (t : Task)
    → i < s.count → o.counted ≡ None → o.raised ≡ Some k → task_of s k ≡ Some t → group_within k t ≡ None
    → KeepsWords w m s (replace_at owes i o) → KeepsWords w m s (replace_at owes i (record o { counted = Some k }))
no_count w m s owes i o k t known none raised live is keeps =
    let here : replace_at owes i o i ≡ o = put_same owes i o in
    subst (λ (f : ℕ → Owed). KeepsWords w m s f) (put_twice owes i o (record o { counted = Some k }))
    (subst (λ (x : Owed). KeepsWords w m s (replace_at (replace_at owes i o) i (record x { counted = Some k }))) here
    (no_count_keeps w m s (replace_at owes i o) i k t keeps known (ap (λ (x : Owed). x.counted) here ∙ none) (ap (λ (x : Owed). x.raised) here ∙ raised) live is))

-- ---- the raise

module _ (p : Program) (w : List ℕ) (m : Memory) (events : List (ℕ × Event)) (s : State) (actors : ℕ → Actor)
    (i : ℕ) (before : Before p w m events s actors i) (place : Option ℕ) (t : Tid)
    (at : (actors i).counter ≡ counter.Task (task.AddCount place t)) where
  abbrev C : TaskCounter
  C = task.AddCount place t

  abbrev k : Tid
  k = (actors i).context.task

  filled : HasFilledTask p w m s (actors i) place t TASK_WORDS
  filled = (row p w m events s actors i before C at).0

  -- the word of the new task's group
  group_is : new_group w (actors i) ≡ group_word w (group_within k (context p w m events s actors i before C at).task)
  group_is =
      let here = context p w m events s actors i before C at in
      let (v, live, knows) = filled.0.1 in
      new_group_is w (actors i) here.task here.groups
      (λ none. knows none ∙ ap (λ (x : Task). group_word w x.group) (some_same live here.live))

  -- the group, whose owner lives
  group : (g : Group) × (group_within k (context p w m events s actors i before C at).task ≡ Some g)
  group = some_group w _ _ group_is (row p w m events s actors i before C at).1

  abbrev g : Group
  g = group.0

  lives : IsSome (task_of s g.owner) × (g.index < OPEN_GROUPS)
  lives =
      let here = context p w m events s actors i before C at in
      within_lives p events s before.rule.reached k here.task here.live g group.1

  owner : (x : Task) × (task_of s g.owner ≡ Some x)
  owner = live_of (task_of s g.owner) lives.0

  there : HasTask w g.owner
  there = task_there p w m events s actors before.rule g.owner owner.0 owner.1

  abbrev X : RecordWord
  X = record { creator = g.owner.0.creator; slot = g.owner.0.slot; field = TaskSlots; place = COUNT_PLACE + g.index }

  abbrev N : Memory
  N = with_count_of m g (one_more (count_of m g))

  -- the word is read back
  word_is : new_group w (actors i) ≡ group_word w (Some g)
  word_is = group_is ∙ ap (group_word w) group.1

  address : of_group_count w (new_group w (actors i)) ≡ word_address w g.owner.0.creator g.owner.0.slot (number TaskSlots) (COUNT_PLACE + g.index)
  address =
      ap (of_group_count w) word_is
      ∙ ap₂ (λ (o : Place) n. word_address w o.creator o.slot (number TaskSlots) (COUNT_PLACE + n))
      (owner_read w before.valid g there lives.1) (index_read w before.valid g there lives.1)

  owed_here : owed (actors i) ≡ with_reference (actors i).context t
  owed_here = owes p w m events s actors i before C at

  words : (b : Actor) → owed b ≡ with_count (actors i).context t → KeepsWords w N s (all_owed (replace_at actors i b))
  words b is =
      let here = context p w m events s actors i before C at in
      let counts = before.rule.words.groups.counts g.owner owner.0 g.index owner.1 lives.1 in
      let most = members_few w s before.valid before.rule.within.count (all_owed actors) g in
      let few : count_of m g < MOST_EVENTS = omega (arith, counts, most) in
      owed_after w N s actors i b (with_count (actors i).context t) is
      (subst (λ (x : Owed). KeepsWords w N s (replace_at (all_owed actors) i (record x { counted = Some k }))) owed_here
      (count_adds_keep w m s (all_owed actors) i k here.task g before.rule.words before.known (ap (λ (x : Owed). x.counted) owed_here) (ap (λ (x : Owed). x.raised) owed_here) here.live group.1 lives.0 lives.1 few))

  -- ---- the thread

  making : IsInTheMaking i (s.tasks i) t.0
  making =
      All-head (λ (q : Tid). IsInTheMaking i (s.tasks i) q.0) t []
      (subst (λ (ks : List Tid). All (λ q. IsInTheMaking i (s.tasks i) q.0) ks) (ap (λ (x : Owed). x.tasks) owed_here) (before.rule.words.made i before.known).making.tasks)

  slots_stay : (q : Option ℕ) → HasPlace p m (actors i) q → HasPlace p N (actors i) q
  slots_stay None o = tt
  slots_stay (Some j) (defers, within, empty) =
      (defers, within, word_stays m g.owner.0.creator tasks g.owner.0.slot (number TaskSlots) (COUNT_PLACE + g.index) (one_more (count_of m g)) (actors i).context.row.0.creator tasks (actors i).context.row.0.slot (number TaskSlots) j (λ _ _ _ _ same. omega (arith, same, within)) ∙ empty)

  record_same : N t.0.creator tasks t.0.slot ≡ m t.0.creator tasks t.0.slot
  record_same =
      record_stays m g.owner.0.creator tasks g.owner.0.slot (number TaskSlots) (COUNT_PLACE + g.index) (one_more (count_of m g)) t.0.creator tasks t.0.slot
      (λ c _ slot. none_some (subst (λ x. (s.tasks x g.owner.0.slot).live ≡ None) (sym making.maker ∙ c) (subst (λ x. (s.tasks i x).live ≡ None) slot making.free)) (found_live g.owner.0.generation (s.tasks g.owner.0.creator g.owner.0.slot) owner.0 owner.1))

  still_filled : (d : TaskCounter) → HasFilledTask p w N s (going d (actors i).gathered (actors i)) place t TASK_WORDS
  still_filled d = filled_goes p w m N s (actors i) d place t TASK_WORDS slots_stay record_same filled

  pub count_keeps : StepKeeps p w m events s actors i (making_next p w (actors i) C) (λ old. (making_moved p w (actors i) C old, making_outcome w (actors i) C old))
  count_keeps = (
    X,
    record { there = record { field = record { from = omega arith; to = omega arith }; record_slot = there; within = group_word_within w (COUNT_PLACE + g.index) before.suits.groups (let few = lives.1 in omega (arith, few)) }; address = address },
    go place refl,
  )
    where
      step : (d : TaskCounter) → owed (to_task d (actors i)) ≡ with_count (actors i).context t
          → task_ahead p (encounter_of s (actors i).context) (actors i).stack d ≡ task_ahead p (encounter_of s (actors i).context) (actors i).stack C
          → FitsTask p (going d (actors i).gathered (actors i)) d → IsPlacedTask w d → KeepsTaskRow p w N s i (going d (actors i).gathered (actors i)) d
          → KeepsRule p w m events s actors i (op.Add (of_group_count w (new_group w (actors i))) 1) X (to_task d (actors i), outcome.Quiet)
      step d is ahead fits_there placed_there row_there =
          quiet_keeps p w m events s actors i before (op.Add (of_group_count w (new_group w (actors i))) 1) X
          (to_task d (actors i), outcome.Quiet) refl (words (to_task d (actors i)) is)
          (λ j other. spares_task m s g.owner owner.0 TaskSlots (COUNT_PLACE + g.index) (one_more (count_of m g)) j (actors j) owner.1 (inl (λ _. omega arith)) (λ f of same _ _ _. place_apart f TaskSlots of refl same))
          (goes_on p w m events s actors i before C at N d (actors i).gathered (own p w m events s actors i before C at).fits.variables ahead fits_there placed_there row_there)

      go : (q : Option ℕ) → place ≡ q
          → KeepsRule p w m events s actors i (op.Add (of_group_count w (new_group w (actors i))) 1) X (to_task (behind_raises q t) (actors i), outcome.Quiet)
      go None e =
          step (task.StartNow t) refl
          (ap (Ahead.making p (encounter_of s (actors i).context) (actors i).stack) (sym e))
          (subst (λ (q : Option ℕ). IsTaskGot p (actors i) q t) e (fits p w m events s actors i before C at))
          (placed p w m events s actors i before C at)
          (subst (λ (q : Option ℕ). HasFilledTask p w N s (going (task.StartNow t) (actors i).gathered (actors i)) q t TASK_WORDS) e (still_filled (task.StartNow t)))
      go (Some j) e =
          step (task.Defer j t) refl
          (ap (Ahead.making p (encounter_of s (actors i).context) (actors i).stack) (sym e))
          (subst (λ (q : Option ℕ). IsTaskGot p (actors i) q t) e (fits p w m events s actors i before C at))
          (placed p w m events s actors i before C at)
          (subst (λ (q : Option ℕ). HasFilledTask p w N s (going (task.Defer j t) (actors i).gathered (actors i)) q t TASK_WORDS) e (still_filled (task.Defer j t)))
