-- A new task is deferred: its code is stored into the own slot that is empty, and its thread leaves the construct.
use Rattle.std.proofs.Common.{◌≡◌, ◌||◌, ◌<◌, nat_lt, inl, inr, slice_get, ℕ, Bool, true, false, List, [], ◌∷◌, ◌++◌, Some, None, refl, sym, ap, ◌∙◌, subst, arith, if◌then◌else◌, lt-ltb}
use Rattle.omi_rep.specs.Records.{slot_word}
use Rattle.omi_word.specs.declared.op.Op.{Op}
use Rattle.omi_word.specs.declared.op.Op.TheVariants as op
use Rattle.omi_script.specs.declared.program.Program.{Program}
use Rattle.omi_script.specs.declared.statement.Stmt.TheVariants as stmt
use Rattle.omi_model.specs.declared.encounter.Encounter.{Encounter}
use Rattle.omi_model.specs.declared.event.Event.{Event}
use Rattle.omi_model.specs.declared.event.Event.TheVariants as event
use Rattle.omi_model.specs.declared.id.Tid.{Tid}
use Rattle.omi_model.specs.declared.item.Item.{Item}
use Rattle.omi_model.specs.declared.item.Item.TheVariants as item
use Rattle.omi_model.specs.declared.task.Task.{Task}
use Rattle.omi_model.specs.Changes.{on_task}
use Rattle.omi_model.specs.Lists.{take_item}
use Rattle.omi_model.specs.Reached.{Step}
use Rattle.omi_model.specs.State.{State, region_of}
use Rattle.omi_model.specs.Tasking.{deferred, deferred_task}
use Rattle.omi_model.proofs.Slots.{some_same}
use Rattle.omi_model.proofs.StaysKept.{stays_step}
use Rattle.omi_model.proofs.Steps.{at_current, relisted}
use Rattle.omi_layout.specs.declared.field.Field.TheVariants.{TaskSlots}
use Rattle.omi_layout.specs.Field.{tasks}
use Rattle.omi_layout.specs.Memory.{Memory, replace_at}
use Rattle.omi_layout.proofs.SlotWords.{slot_within}
use Rattle.omi_pc.specs.declared.actor.Actor.{Actor}
use Rattle.omi_pc.specs.declared.counter.Counter.TheVariants as counter
use Rattle.omi_pc.specs.declared.counter.PlainCounter.TheVariants as plain
use Rattle.omi_pc.specs.declared.task_counter.TaskCounter.{TaskCounter}
use Rattle.omi_pc.specs.declared.task_counter.TaskCounter.TheVariants as task
use Rattle.omi_numbers.specs.declared.limits.TheConstants.{OWN_SLOTS}
use Rattle.omi_pc.specs.declared.limits.TheConstants.{TASK_WORDS}
use Rattle.omi_pc.specs.Settle.{goes_to}
use Rattle.omi_rep.specs.declared.outcome.Outcome.TheVariants as outcome
use Rattle.omi_rule_words.proofs.StoredCodes.{place_apart}
use Rattle.omi_rule_words.specs.ExplicitKinds.{IsRow, with_slot}
use Rattle.omi_rule_words.specs.Owes.{all_owed, nothing}
use Rattle.omi_rule_words.specs.Words.{KeepsWords}
use Rattle.omi_step_words.specs.Placed.{HasTask}
use Rattle.omi_task.specs.MakingSteps.{made_function, makes_final, making_moved, making_next, making_outcome, of_own_slot}
use Rattle.omi_rule.specs.Ahead.{leaving, task_ahead}
use Rattle.omi_rule.specs.Chains.{Stands, StandsWith, encounter_of, IsPassable}
use Rattle.omi_rule.specs.Commits.{defers_next}
use Rattle.omi_rule.specs.Rows.{Defers, HasFilledTask}
use Rattle.omi_rule.specs.Rule.{KeepsThread}
use Rattle.omi_rule.specs.Steps.{RecordWord, StepKeeps}
use Rattle.omi_rule.proofs.Assembly.{Before, event_keeps, spares_task}
use Rattle.omi_rule_words.proofs.Defers.{defers_keep}
use Rattle.omi_rule.proofs.Own.{goes_on}
use Rattle.omi_rule.proofs.OwnTask.{is_current}
use Rattle.omi_rule.proofs.Owing.{owed_after}
use Rattle.omi_rule.proofs.Runs.{stack_runs}
use Rattle.omi_rule.proofs.task.Events.{making_is, none_new, sees_final, step, words_moved}
use Rattle.omi_rule.proofs.task.Making.{IsReady, IsTaskNext, bodies_grown, changes, final_as, is_ready, larger, made_as, sees_grown, tasks_within}
use Rattle.omi_rule.proofs.task.NewTasks.{record_is_filled}
use Rattle.omi_rule.proofs.task.Within.{context, context_placed, fits, list_is, own, own_slots, owes, placed, row, standing, stands, task_few}

module _ (p : Program) (w : List ℕ) (m : Memory) (events : List (ℕ × Event)) (s : State) (actors : ℕ → Actor)
    (i : ℕ) (before : Before p w m events s actors i) (place : ℕ) (t : Tid)
    (at : (actors i).counter ≡ counter.Task (task.Defer place t)) where
  abbrev C : TaskCounter
  C = task.Defer place t

  abbrev K : Tid
  K = (actors i).context.task

  abbrev R : Tid
  R = (actors i).context.row

  abbrev At : Encounter
  At = encounter_of s (actors i).context

  filled : HasFilledTask p w m s (actors i) (Some place) t TASK_WORDS
  filled = row p w m events s actors i before C at

  there : HasTask w t
  there = placed p w m events s actors i before C at

  within : place < OWN_SLOTS
  within = (fits p w m events s actors i before C at).0.1

  -- the construct, whose task is deferred
  defers : Defers p (actors i)
  defers = filled.0.0.0.0

  abbrev next : IsTaskNext p (actors i).stack
  next = record { function = defers.0; undeferred = false; final = defers.1; is = defers.2 }

  abbrev f : ℕ
  f = next.function

  abbrev final : Bool
  final = next.final || (encounter_of s (actors i).context).is_final

  abbrev rest : List Item
  rest = leaving p (encounter_of s (actors i).context) (actors i).stack

  abbrev Z : State
  Z = on_task s (actors i).context.task (relisted rest)

  -- the task that makes it, and the new one
  abbrev Maker : Task
  Maker = relisted rest (context p w m events s actors i before C at).task

  abbrev New : Task
  New = deferred_task p (actors i).context.task Maker f final place

  abbrev U : State
  U = deferred p Z t f final place (actors i).context.task Maker

  abbrev O : Op
  O = op.Store (of_own_slot w (actors i) place) (slot_word w t)

  abbrev X : RecordWord
  X = record { creator = (actors i).context.row.0.creator; slot = (actors i).context.row.0.slot; field = TaskSlots; place = place }

  abbrev N : Memory
  N = with_slot m (actors i).context.row place (slot_word w t)

  -- ---- the event is legal

  not_final : (encounter_of s (actors i).context).is_final ≡ false
  not_final = sees_final p w m events s actors i before C at ∙ defers.3

  taken : take_item p At (event.Defer t) (task_ahead p At (actors i).stack C) ≡ Some (item.Defer place f final, rest)
  taken =
      let few : nat_lt place OWN_SLOTS ≡ true = lt-ltb place OWN_SLOTS within in
      ap (take_item p At (event.Defer t))
      (making_is p At (actors i).stack (Some place) f false next.final false next.is not_final)
      ∙ ap (λ (b : Bool). if b then Some (item.Defer place f final, rest) else None) few

  -- its place is that of the item that is next
  defers_here : defers_next place (context p w m events s actors i before C at).task.list
  defers_here =
      subst (defers_next place)
      (sym (list_is p w m events s actors i before C at ∙ making_is p At (actors i).stack (Some place) f false next.final false next.is not_final)) refl

  ready : IsReady p w m s (all_owed actors) i (actors i) t Maker Z
  ready =
      is_ready p w m events s actors i before C at t rest (owes p w m events s actors i before C at) there
      (Some place) filled

  done : Step p s i (event.Defer t) U
  done =
      step p w m events s actors i before C at (event.Defer t) (item.Defer place f final) rest rest U taken
      (K, (context p w m events s actors i before C at).task, is_current p s i (actors i) (stands p w m events s actors i before C at), ready.fresh)
      refl (at_current Z i K Maker (deferred p Z t f final place) ready.current)

  -- ---- words

  made_is : made_function p (actors i) ≡ f
  made_is = made_as p (actors i) next

  final_is : makes_final p (actors i) ≡ final
  final_is =
      final_as p (actors i) next
      ∙ ap (λ (x : Bool). next.final || x) (sym (sees_final p w m events s actors i before C at))

  row_moved : IsRow Z i (actors i).context.row Maker
  row_moved =
      let o = own_slots p w m events s actors i before C at in
      let (v, live, same) =
      goes_on p s Z i K (changes p w m events s actors i before C at t rest) R o.task o.live in
      record { task = v; live = live; implicit = same.implicit ∙ o.implicit; region = same.region ∙ o.region; thread = same.thread ∙ o.thread }

  words : KeepsWords w N U (replace_at (all_owed actors) i nothing)
  words =
      let o = context p w m events s actors i before C at in
      defers_keep p w m Z (all_owed actors) i t f final place K Maker R
      (words_moved p w m events s actors i before C at rest) ready.within ready.names ready.owners before.valid before.known ready.owes row_moved within filled.0.0.0.2
      (record_is_filled p w (actors i) f final place Maker (m i tasks t.0.slot) made_is final_is o.region_is ready.group ready.filled (task_few p w m events s actors i before C at) ready.variables)

  -- ---- the thread afterwards

  abbrev Later : List (ℕ × Event)
  Later = events ++ (i, event.Defer t) ∷ []

  stands_now : Stands p U i (goes_to plain.Leave (actors i))
  stands_now =
      let (g, gs, stack, o) = standing p w m events s actors i before C at in
      subst (StandsWith p U i (goes_to plain.Leave (actors i))) (sym stack)
      (record {
        current = (stands p w m events s actors i before C at).current;
        bodies = bodies_grown p w m s (all_owed actors) i (actors i) t Maker Z ready New U refl refl refl;
        front = λ x live. subst (λ (y : Task). IsPassable y.frees) (some_same ((larger p w m s (all_owed actors) i (actors i) t Maker Z ready New U refl refl refl).tasks K Maker ready.current.live) live) tt;
        ahead = λ x live. ap (λ (y : Task). y.list) (some_same live ((larger p w m s (all_owed actors) i (actors i) t Maker Z ready New U refl refl refl).tasks K Maker ready.current.live)) ∙ ap (λ (e : Encounter). leaving p e (actors i).stack) (sym (sees_grown p w m s (all_owed actors) i (actors i) t Maker Z ready New U refl refl refl));
      })

  thread_now : KeepsThread p w N Later U i (goes_to plain.Leave (actors i))
  thread_now =
      let mine = own p w m events s actors i before C at in
      record {
        thread = mine.thread;
        fits = record { thread = mine.fits.thread; variables = mine.fits.variables; bodies = mine.fits.bodies; counter = (stmt.Task f false next.final, next.is, tt) };
        placed = record { bodies = mine.placed.bodies; counter = tt };
        stands = stands_now;
        runs = stack_runs p s U i (stays_step p s i (event.Defer t) U done) (actors i) mine.stands mine.runs;
        row = tt;
        ended = tt;
      }

  -- ---- the step

  pub defer_keeps : StepKeeps p w m events s actors i (making_next p w (actors i) C) (λ old. (making_moved p w (actors i) C old, making_outcome w (actors i) C old))
  defer_keeps =
      let o = context p w m events s actors i before C at in
      let slots = own_slots p w m events s actors i before C at in (
        X,
        record { there = record { field = record { from = omega arith; to = omega arith }; record_slot = (context_placed p w m events s actors i before C at).row; within = slot_within w place within }; address = refl },
        event_keeps p w m events s actors i before O X (goes_to plain.Leave (actors i), outcome.Event (event.Defer t)) (event.Defer t) U refl done (
          place,
          (K, o.task, is_current p s i (actors i) (stands p w m events s actors i before C at), defers_here),
          (K, o.task, o.region, is_current p s i (actors i) (stands p w m events s actors i before C at), ap (region_of s) o.region_is ∙ o.found, (R, ap (slice_get o.region.team) o.number ∙ o.row, (slot_word w t, refl))),
        )
            filled.0.0.0.2
            before.rule.within.regions
            (tasks_within p w m s (all_owed actors) i (actors i) t Maker Z ready New U refl refl refl)
            (none_new p w m events s actors i before C at (event.Defer t) (item.Defer place f final) rest U taken done (λ g e. cc e))
            (owed_after w N U actors i (goes_to plain.Leave (actors i)) nothing refl words)
            (λ j other. spares_task m s R slots.task TaskSlots place (slot_word w t) j (actors j) slots.live (inr (inl (λ same. other (sym same ∙ slots.thread)))) (λ g of same deferred known is. place_apart g TaskSlots of refl same))
            thread_now,
      )
