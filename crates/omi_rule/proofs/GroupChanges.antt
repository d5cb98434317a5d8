-- The current task of a thread begins or ends a group: the number of its open groups is stored, and all else of the thread and of the words stays.
use Rattle.std.proofs.Common.{◌≡◌, ◌≢◌, ◌+◌, ◌<◌, ◌==◌, ℕ, Bool, true, false, List, [], ◌∷◌, ◌++◌, Option, Some, refl, sym, ap, ◌∙◌, subst, arith, eqb-true, eq-eqb}
use Rattle.std.specs.Option.{option_map}
use Rattle.omi_word.specs.declared.op.Op.TheVariants as op
use Rattle.omi_script.specs.declared.program.Program.{Program}
use Rattle.omi_model.specs.declared.event.Event.{Event}
use Rattle.omi_model.specs.declared.id.Tid.{Tid}
use Rattle.omi_model.specs.declared.item.Item.{Item}
use Rattle.omi_model.specs.declared.task.Task.{Task}
use Rattle.omi_model.specs.Changes.{IsCurrent, on_task}
use Rattle.omi_model.specs.Groups.{with_groups}
use Rattle.omi_model.specs.Put.{on}
use Rattle.omi_model.specs.Reached.{Step}
use Rattle.omi_model.specs.State.{State, task_of}
use Rattle.omi_model.proofs.Slots.{on_same, some_same}
use Rattle.omi_model.proofs.StaysKept.{stays_step}
use Rattle.omi_model.proofs.Steps.{current_moved, relisted}
use Rattle.omi_layout.specs.declared.field.Field.TheVariants.{TaskSlots}
use Rattle.omi_layout.specs.declared.limits.TheConstants.{OPEN_PLACE}
use Rattle.omi_layout.specs.Memory.{Memory}
use Rattle.omi_layout.specs.Named.{number}
use Rattle.omi_layout.proofs.Numbers.{numbered_field}
use Rattle.omi_layout.proofs.SlotWords.{group_word_within}
use Rattle.omi_pc.specs.declared.actor.Actor.{Actor}
use Rattle.omi_pc.specs.FitLaws.{grouped}
use Rattle.omi_rep.specs.declared.outcome.Outcome.{Outcome}
use Rattle.omi_rep.specs.declared.outcome.Outcome.TheVariants as outcome
use Rattle.omi_rule_words.specs.ExplicitKinds.{with_slot}
use Rattle.omi_rule_words.specs.Owes.{Owed, all_owed, nothing, owed}
use Rattle.omi_rule_words.specs.Words.{KeepsWords}
use Rattle.omi_rule_words.proofs.GroupStores.{group_stores_keep}
use Rattle.omi_rule_words.proofs.ListMoves.{list_moves_keep}
use Rattle.omi_rule_words.proofs.Moves.{moves_keep}
use Rattle.omi_step_words.specs.Words.{of_groups}
use Rattle.omi_rule.specs.Chains.{IsPassable, KeepsBodies, KeepsContext, RunsFunctions, StandsInTask, encounter_of}
use Rattle.omi_rule.specs.Commits.{CommitsAt}
use Rattle.omi_rule.specs.Rule.{AreNewMembers, KeepsThread}
use Rattle.omi_rule.specs.Steps.{IsOn, KeepsRule, RecordWord}
use Rattle.omi_rule.proofs.Assembly.{Before, plain_event_keeps, spares_begun}
use Rattle.omi_rule.proofs.NothingNew.{Makes}
use Rattle.omi_rule.proofs.OwedInside.{raised_runs}
use Rattle.omi_rule.proofs.Own.{AreBelow, ChangesTask, bodies_kept, context_kept, encounter_kept}
use Rattle.omi_rule.proofs.OwnTask.{is_current, list_moved, own_below, own_changes, relisted_alike, top}
use Rattle.omi_rule.proofs.Regrouped.{bodies_regrouped, context_regrouped, runs_regrouped, sees_own}
use Rattle.omi_rule.proofs.Runs.{stack_runs}

module _ (p : Program) (w : List ℕ) (m : Memory) (events : List (ℕ × Event)) (s : State) (actors : ℕ → Actor)
    (i : ℕ) (before : Before p w m events s actors i) (o : StandsInTask p s i (actors i))
    (idle : owed (actors i) ≡ nothing) (n : ℕ) (zs : List Item) where
  abbrev a : Actor
  a = actors i

  abbrev K : Tid
  K = (actors i).context.task

  abbrev mine : KeepsContext s i (actors i).context
  mine = top p s i (actors i) o

  -- ---- the state: the list has moved on, and the task has so many groups open

  abbrev listed : State
  listed = on_task s (actors i).context.task (relisted zs)

  abbrev pub regrouped : State
  regrouped =
      with_groups (on_task s (actors i).context.task (relisted zs)) n (actors i).context.task

  pub listed_current : IsCurrent listed i K (relisted zs mine.task)
  listed_current = current_moved s i K o.current zs K mine.task (is_current p s i a o)

  abbrev with_open : Task → Task
  with_open t = record t { open_groups = n }

  task_later : task_of regrouped K ≡ Some (record (relisted zs mine.task) { open_groups = n })
  task_later =
      on_same (on s.tasks K.0 (relisted zs)) K.0 with_open
      ∙ ap (λ (x : Option Task). option_map with_open x) listed_current.live

  pub list_later : (t : Task) → task_of regrouped K ≡ Some t → (t.list ≡ zs) × IsPassable t.frees
  list_later t live =
      let same = some_same live task_later in
      (ap (λ (x : Task). x.list) same, subst (λ (x : Task). IsPassable x.frees) (sym same) tt)

  -- ---- the thread's chain

  changes : ChangesTask s listed i K
  changes = own_changes p s i a o (relisted zs) listed (λ t live. relisted_alike zs t) refl refl refl refl

  below : AreBelow K a.stack
  below = own_below p s i a o events before.rule.reached

  pub bodies_later : KeepsBodies p regrouped i (grouped n a.context) a.stack
  bodies_later =
      bodies_regrouped p listed i K n a.context a.stack refl below
      (bodies_kept p s listed i K changes a.context a.stack below o.bodies)

  pub context_later : KeepsContext regrouped i (grouped n a.context)
  context_later =
      context_regrouped p listed i K n a.context refl (context_kept p s listed i K changes a.context mine)

  pub sees_later : encounter_of regrouped (grouped n a.context) ≡ encounter_of s a.context
  sees_later =
      sees_own p listed i K n a.context refl (context_kept p s listed i K changes a.context mine)
      ∙ encounter_kept p s listed i K changes a.context mine

  pub runs_later : (e : Event) → Step p s i e regrouped
      → RunsFunctions regrouped (grouped n a.context) a.stack
  runs_later e step =
      let own = before.rule.threads i before.known in
      runs_regrouped regrouped n a.context a.stack
      (stack_runs p s regrouped i (stays_step p s i e regrouped step) a own.stands own.runs)

  -- ---- the words

  -- no thread has raised the count of a group for a task that this one makes: the thread that makes tasks of it is this one, and owes nothing
  none_counted : (j : ℕ) → j < s.count → (owed (actors j)).counted ≢ Some K
  none_counted j known is = by (j == i) refl
    where
      by : (b : Bool) → j == i ≡ b → ⊥
      by true e =
          cc
          (sym (ap (λ (x : ℕ). (owed (actors x)).counted) (eqb-true j i e)) ∙ is, ap (λ (x : Owed). x.counted) idle)
      by false e =
          let (t, live, runs) =
          raised_runs p w m events s actors before.rule j known K (before.rule.words.groups.counted j K known is) in
          let same : j ≡ i =
          sym runs ∙ ap (λ (x : Task). x.thread) (some_same live mine.live) ∙ mine.thread in
          cc (eq-eqb j i same, e)

  abbrev stored : Memory
  stored = with_slot m (actors i).context.task OPEN_PLACE n

  words_later : KeepsWords w stored regrouped (all_owed actors)
  words_later =
      group_stores_keep w m listed (all_owed actors) K (relisted zs mine.task) n
      (subst (λ (z : State). KeepsWords w m z (all_owed actors)) (list_moved p s i a o zs)
      (list_moves_keep w m s (all_owed actors) i zs before.rule.words before.known))
      listed_current.live none_counted

  -- ---- the step

  abbrev pub on_open : RecordWord
  on_open = record { creator = (actors i).context.task.0.creator; slot = (actors i).context.task.0.slot; field = TaskSlots; place = OPEN_PLACE }

  pub is_on_open : IsOn w (op.Store (of_groups w (actors i).context.task OPEN_PLACE) n) on_open
  is_on_open =
      let there = before.rule.within.tasks K.0.creator K.0.slot K.0.generation mine.task mine.live in record {
        there = record {
          field = numbered_field TaskSlots;
          record_slot = record { made_by = there.maker; within = there.place };
          within = group_word_within w OPEN_PLACE before.suits.groups (omega arith);
        };
        address = refl;
      }

  pub store_keeps : (b : Actor) (out : Outcome) (e : Event) → out ≡ outcome.Event e → (Makes e → ⊥)
      → Step p s i e regrouped → AreNewMembers p regrouped
      → CommitsAt w s i e (op.Store (of_groups w (actors i).context.task OPEN_PLACE) n) → owed b ≡ nothing
      → KeepsThread p w stored (events ++ (i, e) ∷ []) regrouped i b
      → KeepsRule p w m events s actors i (op.Store (of_groups w (actors i).context.task OPEN_PLACE) n) on_open (b, out)
  store_keeps b out e is not step new commits owes own =
      plain_event_keeps p w m events s actors i before
      (op.Store (of_groups w (actors i).context.task OPEN_PLACE) n) on_open (b, out) e regrouped not is step commits new
      (moves_keep w stored regrouped actors i b words_later (owes ∙ sym idle))
      (λ j other. spares_begun m s K mine.task TaskSlots OPEN_PLACE n i j (actors j) mine.live mine.begun mine.thread other)
      own
