-- A `task` construct looks for an own slot that is empty: a slot in which a deferred task stands is passed over.
use Rattle.std.proofs.Common.{◌≡◌, ◌≢◌, ◌==◌, ◌&&◌, ◌||◌, ◌+◌, ◌<◌, nat_lt, inl, inr, ◌⊎◌, ℕ, Bool, true, false, List, [], ◌∷◌, ◌++◌, slice_get, Option, Some, None, unwrap_or, refl, sym, ap, ◌∙◌, subst, arith, eq-eqb, eqb-true, ltb-true, if◌then◌else◌, lt-ltb}
use Rattle.std.proofs.lemmas.Bool.Decides.{nat_tests}
use Rattle.omi_rep.specs.Records.{slot_word}
use Rattle.omi_word.specs.declared.op.Op.TheVariants as op
use Rattle.omi_script.specs.declared.program.Program.{Program}
use Rattle.omi_model.specs.declared.encounter.Encounter.{Encounter}
use Rattle.omi_model.specs.declared.event.Event.{Event}
use Rattle.omi_model.specs.declared.event.Event.TheVariants as event
use Rattle.omi_model.specs.declared.id.Tid.{Tid}
use Rattle.omi_model.specs.declared.item.Item.{Item}
use Rattle.omi_model.specs.declared.item.Item.TheVariants as item
use Rattle.omi_model.specs.declared.progress.Progress.TheVariants.{Deferred}
use Rattle.omi_model.specs.declared.task.Task.{Task}
use Rattle.omi_model.specs.Changes.{on_task}
use Rattle.omi_model.specs.Lists.{take_item}
use Rattle.omi_model.specs.Reached.{Reached, Step}
use Rattle.omi_model.specs.State.{State, region_of, task_of}
use Rattle.omi_model.specs.Tasking.{IsTaken}
use Rattle.omi_model.proofs.MembersKnown.{members_known}
use Rattle.omi_model.proofs.NamesLive.{names_live}
use Rattle.omi_model.proofs.Slots.{found_live, some_same}
use Rattle.omi_model.proofs.StaysKept.{stays_step}
use Rattle.omi_model.proofs.Steps.{relisted}
use Rattle.omi_layout.specs.declared.field.Field.TheVariants.{TaskSlots}
use Rattle.omi_layout.specs.Field.{tasks}
use Rattle.omi_layout.specs.Memory.{Memory, replace_at}
use Rattle.omi_layout.proofs.SlotWords.{slot_within}
use Rattle.omi_pc.specs.declared.actor.Actor.{Actor}
use Rattle.omi_pc.specs.declared.counter.Counter.TheVariants as counter
use Rattle.omi_numbers.specs.declared.limits.TheConstants.{OWN_SLOTS}
use Rattle.omi_pc.specs.declared.task_counter.TaskCounter.{TaskCounter}
use Rattle.omi_pc.specs.declared.task_counter.TaskCounter.TheVariants as task
use Rattle.omi_pc.specs.Fits.{FitsTask}
use Rattle.omi_rep.specs.declared.outcome.Outcome.TheVariants as outcome
use Rattle.omi_rule_words.specs.Objects.{IsDeferredIn}
use Rattle.omi_rule_words.specs.Owes.{all_owed, nothing, owed}
use Rattle.omi_rule_words.specs.Threads.{Has}
use Rattle.omi_rule_words.specs.Words.{KeepsWords}
use Rattle.omi_rule_words.proofs.Moves.{moves_keep}
use Rattle.omi_step_words.specs.Placed.{IsPlacedTask}
use Rattle.omi_step_words.specs.Moving.{to_task}
use Rattle.omi_task.specs.MakingSteps.{making_moved, making_next, making_outcome, of_own_slot}
use Rattle.omi_rule.specs.Ahead.{leaving, making, task_ahead}
use Rattle.omi_rule.specs.Chains.{encounter_of, IsPassable}
use Rattle.omi_rule.specs.Rows.{Defers, KeepsTaskRow}
use Rattle.omi_rule.specs.Rule.{KeepsThread}
use Rattle.omi_rule.specs.Steps.{KeepsRule, RecordWord, StepKeeps, found_in, left_in}
use Rattle.omi_rule.proofs.Assembly.{Before, load_stays, of_load, plain_event_keeps, spares_none}
use Rattle.omi_rule.proofs.KeptObjects.{task_kept}
use Rattle.omi_rule.proofs.Own.{ChangesTask, context_kept}
use Rattle.omi_rule.proofs.OwnTask.{is_current, own_changes, own_stands, relisted_ahead, relisted_alike, relisted_front}
use Rattle.omi_rule.proofs.RowsStay.{Spares}
use Rattle.omi_rule.proofs.Runs.{stack_runs}
use Rattle.omi_rule.proofs.task.Events.{making_is, none_new, sees_final, step, words_moved}
use Rattle.omi_rule.proofs.task.Within.{context, context_placed, fits, going, goes_on, own, own_slots, owes, row, standing, stands}

-- a deferred task is explicit
pub deferred_explicit : (p : Program) (events : List (ℕ × Event)) (s : State) → Reached p events s
    → (k : Tid) (t : Task) → task_of s k ≡ Some t → t.progress ≡ Deferred → t.implicit ≡ false
deferred_explicit p events s reached k t live is = go t.implicit refl
  where
    go : (b : Bool) → t.implicit ≡ b → t.implicit ≡ false
    go false e = e
    go true e =
        let (r, found, there) = (members_known p events s reached).tasks k t live e in
        let member =
        ((names_live p events s reached).regions t.region r found).members t.number (k, t.thread) there t live in
        absurd (member.undeferred (ap (λ (x : Task). x.progress) (some_same member.live live) ∙ is))

module _ (p : Program) (w : List ℕ) (m : Memory) (events : List (ℕ × Event)) (s : State) (actors : ℕ → Actor)
    (i : ℕ) (before : Before p w m events s actors i) (place : ℕ)
    (at : (actors i).counter ≡ counter.Task (task.LoadSlot place)) where
  abbrev C : TaskCounter
  C = task.LoadSlot place

  abbrev a : Actor
  a = actors i

  abbrev At : Encounter
  At = encounter_of s (actors i).context

  abbrev X : RecordWord
  X = record { creator = (actors i).context.row.0.creator; slot = (actors i).context.row.0.slot; field = TaskSlots; place = place }

  abbrev O : ℕ
  O = of_own_slot w (actors i) place

  within : place < OWN_SLOTS
  within = (fits p w m events s actors i before C at).1

  defers : Defers p (actors i)
  defers = row p w m events s actors i before C at

  -- ---- a slot is empty

  empty_keeps : found_in m X ≡ 0
      → KeepsRule p w m events s actors i (op.Load O) X (to_task (task.LoadVariable (Some place) 0) (actors i), outcome.Quiet)
  empty_keeps none =
      let o = context p w m events s actors i before C at in
      let d : TaskCounter = task.LoadVariable (Some place) 0 in
      load_stays p w m events s actors i before O X (to_task d (actors i))
      (sym (owes p w m events s actors i before C at))
      (goes_on p w m events s actors i before C at m d (actors i).gathered (own p w m events s actors i before C at).fits.variables refl
      (fits p w m events s actors i before C at, omega arith) tt
      ((defers, within, none), (o.task, o.live, λ j below. absurd (omega (arith, below)))))

  -- ---- a slot is taken

  abbrev rest : List Item
  rest = leaving p (encounter_of s (actors i).context) (actors i).stack

  abbrev f : ℕ
  f = defers.0

  abbrev final : Bool
  final = defers.1 || (encounter_of s (actors i).context).is_final

  not_final : (encounter_of s (actors i).context).is_final ≡ false
  not_final = sees_final p w m events s actors i before C at ∙ defers.3

  -- the making of the task, into whichever slot
  ahead : (q : Option ℕ)
      → making p (encounter_of s (actors i).context) (actors i).stack q ≡ item.Defer (unwrap_or q 4) f final ∷ rest
  ahead q = making_is p At (actors i).stack q f false defers.1 false defers.2 not_final

  abbrev zs : List Item
  zs = item.Defer (place + 1) f final ∷ rest

  abbrev u : State
  u = on_task s (actors i).context.task (relisted zs)

  taken : take_item p At (event.Seen place) (task_ahead p At (actors i).stack C) ≡ Some (item.Defer place f final, rest)
  taken =
      let few : nat_lt place OWN_SLOTS ≡ true = lt-ltb place OWN_SLOTS within in
      ap (take_item p At (event.Seen place)) (ahead (Some place))
      ∙ ap (λ (b : Bool). if b then Some (item.Defer place f final, rest) else None)
      (ap (λ (b : Bool). b && nat_lt place 4) (eq-eqb place place refl) ∙ few)

  is_taken : found_in m X ≢ 0 → IsTaken s i (context p w m events s actors i before C at).task.region place
  is_taken some =
      let slots = own_slots p w m events s actors i before C at in
      go slots.task slots.region slots.thread
      ((task_kept p w m events s actors before.rule (actors i).context.row slots.task slots.live).slots slots.implicit place within)
    where
      go : (x : Task) → x.region ≡ (context p w m events s actors i before C at).task.region → x.thread ≡ i
          → Has (m (actors i).context.row.0.creator tasks (actors i).context.row.0.slot) TaskSlots place 0 ⊎ ((k : Tid) × IsDeferredIn s x place k × Has (m (actors i).context.row.0.creator tasks (actors i).context.row.0.slot) TaskSlots place (slot_word w k))
          → IsTaken s i (context p w m events s actors i before C at).task.region place
      go x same mine (inl none) = absurd (some none)
      go x same mine (inr (k, o, word)) = record {
        slot = k.0.slot;
        task = o.task;
        live = subst (λ c. (s.tasks c k.0.slot).live ≡ Some o.task) (o.maker ∙ mine) (found_live k.0.generation (s.tasks k.0.creator k.0.slot) o.task o.live);
        explicit = deferred_explicit p events s before.rule.reached k o.task o.live o.progress;
        deferred = o.progress;
        same = o.region ∙ same;
        there = o.place_is;
      }

  done : found_in m X ≢ 0 → Step p s i (event.Seen place) u
  done some =
      let o = context p w m events s actors i before C at in
      step p w m events s actors i before C at (event.Seen place) (item.Defer place f final) rest zs u taken
      ((actors i).context.task, o.task, is_current p s i (actors i) (stands p w m events s actors i before C at), is_taken some) refl refl

  changes : ChangesTask s u i (actors i).context.task
  changes =
      own_changes p s i (actors i) (stands p w m events s actors i before C at) (relisted zs) u
      (λ t live. relisted_alike zs t) refl refl refl refl

  seen_keeps : found_in m X ≢ 0 → (d : TaskCounter) → owed (going d (actors i).gathered (actors i)) ≡ nothing
      → zs ≡ task_ahead p At (actors i).stack d → FitsTask p (actors i) d → IsPlacedTask w d
      → KeepsTaskRow p w m u i (going d (actors i).gathered (actors i)) d
      → KeepsRule p w m events s actors i (op.Load O) X
      (to_task d (actors i), outcome.Event (event.Seen place))
  seen_keeps some d owes_none next fits_there placed_there row_there =
      let mine = own p w m events s actors i before C at in
      let o = context p w m events s actors i before C at in
      let (g, gs, stack, inside) = standing p w m events s actors i before C at in
      let same : left_in m (op.Load O) X ≡ m = of_load p w m events s actors i before O X in
      plain_event_keeps p w m events s actors i before (op.Load O) X
      (to_task d (actors i), outcome.Event (event.Seen place)) (event.Seen place) u (λ none. none) refl
      (done some)
      ((actors i).context.task, o.task, o.region, is_current p s i (actors i) (stands p w m events s actors i before C at), ap (region_of s) o.region_is ∙ o.found, ((actors i).context.row, ap (slice_get o.region.team) o.number ∙ o.row, refl))
      (none_new p w m events s actors i before C at (event.Seen place) (item.Defer place f final) rest u taken (done some) (λ h e. absurd (cc e)))
      (subst (λ (n : Memory). KeepsWords w n u (all_owed (replace_at actors i (to_task d (actors i))))) (sym same)
      (moves_keep w m u actors i (to_task d (actors i)) (words_moved p w m events s actors i before C at zs) (owes_none ∙ sym (owes p w m events s actors i before C at))))
      (λ j other. subst (λ (n : Memory). Spares m n s j (actors j)) (sym same) (spares_none m s j (actors j)))
      (subst (λ (n : Memory). KeepsThread p w n (events ++ (i, event.Seen place) ∷ []) u i (to_task d (actors i))) (sym same)
      (record {
        thread = mine.thread;
        fits = record { thread = mine.fits.thread; variables = mine.fits.variables; bodies = mine.fits.bodies; counter = fits_there };
        placed = record { bodies = mine.placed.bodies; counter = placed_there };
        stands =
            own_stands p s i (actors i)
            (stands p w m events s actors i before C at) events before.rule.reached u changes
            (to_task d (actors i)) g gs stack refl (λ b. b)
            (relisted_ahead p s i (actors i) (stands p w m events s actors i before C at) zs u refl (λ xs. xs ≡ task_ahead p At (actors i).stack d) next)
            (λ t live. subst IsPassable (sym (relisted_front p s i (actors i) (stands p w m events s actors i before C at) zs u refl t live)) tt);
        runs = stack_runs p s u i (stays_step p s i (event.Seen place) u (done some)) (actors i) mine.stands mine.runs;
        row = row_there;
        ended = tt;
      }))

  taken_keeps : found_in m X ≢ 0 → (b : Bool) → nat_lt (place + 1) OWN_SLOTS ≡ b
      → KeepsRule p w m events s actors i (op.Load O) X (to_task (if b then task.LoadSlot (place + 1) else task.LoadVariable None 0) (actors i), outcome.Event (event.Seen place))
  taken_keeps some true e =
      seen_keeps some (task.LoadSlot (place + 1)) refl (sym (ahead (Some (place + 1))))
      ((fits p w m events s actors i before C at).0, ltb-true (place + 1) OWN_SLOTS e) tt defers
  taken_keeps some false e =
      let last : place + 1 ≡ 4 = grind (arith, nat_tests, within) in
      let o =
      context_kept p s u i (actors i).context.task changes (actors i).context
      (context p w m events s actors i before C at) in
      seen_keeps some (task.LoadVariable None 0) refl
      (ap (λ n. item.Defer n f final ∷ rest) last ∙ sym (ahead None))
      (((fits p w m events s actors i before C at).0, tt), omega arith) tt
      (tt, (o.task, o.live, λ j below. absurd (omega (arith, below))))

  pub slot_keeps : StepKeeps p w m events s actors i (making_next p w (actors i) C) (λ old. (making_moved p w (actors i) C old, making_outcome w (actors i) C old))
  slot_keeps = (
    X,
    record { there = record { field = record { from = omega arith; to = omega arith }; record_slot = (context_placed p w m events s actors i before C at).row; within = slot_within w place within }; address = refl },
    go (found_in m X == 0) refl,
  )
    where
      go : (b : Bool) → found_in m X == 0 ≡ b
          → KeepsRule p w m events s actors i (op.Load O) X
          (to_task (if b then task.LoadVariable (Some place) 0 else (if nat_lt (place + 1) OWN_SLOTS then task.LoadSlot (place + 1) else task.LoadVariable None 0)) (actors i), if b then outcome.Quiet else outcome.Event (event.Seen place))
      go true e = empty_keeps (eqb-true (found_in m X) 0 e)
      go false e =
          taken_keeps (λ same. cc (sym e, eq-eqb (found_in m X) 0 same)) (nat_lt (place + 1) OWN_SLOTS) refl
