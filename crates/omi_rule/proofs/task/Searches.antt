-- The search of a `task` construct for the record of the new task: one that is free is taken, and the thread waits on any other.
use Rattle.std.proofs.Common.{◌≡◌, ◌<◌, ◌||◌, inr, ℕ, Bool, true, false, List, ◌∷◌, Option, unwrap_or, refl, sym, ap, subst, arith, if◌then◌else◌}
use Rattle.omi_word.specs.declared.op.Op.TheVariants as op
use Rattle.omi_script.specs.declared.program.Program.{Program}
use Rattle.omi_script.specs.declared.statement.Stmt.{Stmt}
use Rattle.omi_script.specs.declared.statement.Stmt.TheVariants as stmt
use Rattle.omi_model.specs.declared.encounter.Encounter.{Encounter}
use Rattle.omi_model.specs.declared.event.Event.{Event}
use Rattle.omi_model.specs.declared.id.Tid.{Tid}
use Rattle.omi_model.specs.declared.item.Item.{Item}
use Rattle.omi_model.specs.declared.item.Item.TheVariants as item
use Rattle.omi_model.specs.Changes.{OfCurrent}
use Rattle.omi_model.specs.State.{State}
use Rattle.omi_layout.specs.declared.field.Field.TheVariants.{TaskLife}
use Rattle.omi_layout.specs.Field.{tasks}
use Rattle.omi_layout.specs.Memory.{Memory}
use Rattle.omi_layout.specs.Place.{IsSlot}
use Rattle.omi_layout.specs.Table.{per_thread}
use Rattle.omi_pc.specs.declared.actor.Actor.{Actor}
use Rattle.omi_pc.specs.declared.counter.Counter.TheVariants as counter
use Rattle.omi_pc.specs.declared.frame.Frame.{Frame}
use Rattle.omi_pc.specs.declared.task_counter.TaskCounter.{TaskCounter}
use Rattle.omi_pc.specs.declared.task_counter.TaskCounter.TheVariants as task
use Rattle.omi_pc.specs.Fits.{IsTask}
use Rattle.omi_pc.specs.OpenBodies.{IsAt}
use Rattle.omi_rep.specs.declared.outcome.Outcome.TheVariants as outcome
use Rattle.omi_rule_words.specs.Counts.{has_slot}
use Rattle.omi_rule_words.specs.Objects.{KeepsLife}
use Rattle.omi_rule_words.specs.Owes.{owed}
use Rattle.omi_step_words.specs.Moving.{to_task}
use Rattle.omi_step_words.specs.Searches.{next_slot, own_place}
use Rattle.omi_step_words.specs.Words.{is_free, object_in, of_place}
use Rattle.omi_task.specs.MakingSteps.{making_moved, making_next, making_outcome}
use Rattle.omi_rule.specs.Ahead as Ahead
use Rattle.omi_rule.specs.Ahead.{making}
use Rattle.omi_rule.specs.Chains.{encounter_of}
use Rattle.omi_rule.specs.Rows.{HasLoaded}
use Rattle.omi_rule.specs.Steps.{KeepsRule, RecordWord, StepKeeps, found_in}
use Rattle.omi_rule.specs.Waits as Waits
use Rattle.omi_rule.specs.Waits.{makes_next}
use Rattle.omi_rule.proofs.Assembly.{Before, load_stays, load_waits}
use Rattle.omi_rule.proofs.OwnTask.{is_current}
use Rattle.omi_rule.proofs.Settling.{in_work_is}
use Rattle.omi_rule.proofs.task.Loads.{place_goes}
use Rattle.omi_rule.proofs.task.Within.{context, fits, going, goes_on, list_is, own, owes, placed, row, stands, thread_there}
use Rattle.omi_rule.proofs.SlotGenerations.{slots_few}
use Rattle.omi_rule.proofs.team.Records.{free_slot, next_within, taken_slot}

-- the making of a task is next, whatever place it is for
pub making_is_next : (p : Program) (at : Encounter) (fs : List Frame) (place : Option ℕ) (s : Stmt)
    → IsAt p fs s → IsTask s → makes_next (making p at fs place)
making_is_next p at fs place (stmt.Task f undeferred final) is o =
    subst makes_next (sym (in_work_is p fs (stmt.Task f undeferred final) _ is))
    (go (undeferred || at.is_final))
  where
    rest : List Item
    rest = Ahead.leaving p at fs

    go : (b : Bool)
        → makes_next ((if b then item.StartNow f (final || at.is_final) else item.Defer (unwrap_or place 4) f (final || at.is_final)) ∷ rest)
    go true = tt
    go false = tt
making_is_next p at fs place s is o = absurd o

-- what was loaded is still known where the thread goes on
pub loaded_goes : (p : Program) (w : List ℕ) (m : Memory) (s : State) (a : Actor) (d : TaskCounter) (place : Option ℕ)
    → HasLoaded p w m s a place → HasLoaded p w m s (going d a.gathered a) place
loaded_goes p w m s a d place ((o, variables), group) = ((place_goes p m a d a.gathered place o, variables), group)

module _ (p : Program) (w : List ℕ) (m : Memory) (events : List (ℕ × Event)) (s : State) (actors : ℕ → Actor)
    (i : ℕ) (before : Before p w m events s actors i) (place : Option ℕ) (slot : ℕ)
    (at : (actors i).counter ≡ counter.Task (task.LoadLife place slot)) where
  abbrev C : TaskCounter
  C = task.LoadLife place slot

  abbrev X : RecordWord
  X = record { creator = (actors i).thread; slot = slot; field = TaskLife; place = 0 }

  same_thread : (actors i).thread ≡ i
  same_thread = (own p w m events s actors i before C at).thread

  within : slot < per_thread w tasks
  within = placed p w m events s actors i before C at

  life : KeepsLife (m (actors i).thread tasks slot) TaskLife (s.tasks i slot) (has_slot slot (owed (actors i)).tasks)
  life =
      subst
      (λ j. KeepsLife (m j tasks slot) TaskLife (s.tasks i slot) (has_slot slot (owed (actors i)).tasks))
      (sym same_thread) (((before.rule.words.made i before.known).tasks slot within).life)

  there : IsSlot w tasks (actors i).thread slot
  there = record { made_by = thread_there p w m events s actors i before C at; within = within }

  makes : OfCurrent s i (λ k t. makes_next t.list)
  makes =
      let o = context p w m events s actors i before C at in
      let (x, is, is_task) = (fits p w m events s actors i before C at).0 in
      ((actors i).context.task, o.task, is_current p s i (actors i) (stands p w m events s actors i before C at), subst makes_next (sym (list_is p w m events s actors i before C at)) (making_is_next p (encounter_of s (actors i).context) (actors i).stack place x is is_task))

  pub search_keeps : StepKeeps p w m events s actors i (making_next p w (actors i) C) (λ old. (making_moved p w (actors i) C old, making_outcome w (actors i) C old))
  search_keeps = (
    X,
    record { there = record { field = record { from = omega arith; to = omega arith }; record_slot = there; within = omega arith }; address = refl },
    go (is_free (found_in m X)) refl,
  )
    where
      go : (b : Bool) → is_free (found_in m X) ≡ b
          → KeepsRule p w m events s actors i (op.Load (of_place w (own_place (actors i) slot) TaskLife)) X
          (to_task (if b then task.Take place (record { 0 = object_in (own_place (actors i) slot) (found_in m X) }) else task.LoadLife place (next_slot w tasks slot)) (actors i), if b then outcome.Quiet else outcome.NotReady (of_place w (own_place (actors i) slot) TaskLife) (found_in m X))
      go true free =
          let t : Tid = record { 0 = object_in (own_place (actors i) slot) (found_in m X) } in
          let next : TaskCounter = task.Take place t in
          let (fresh, none) =
          free_slot s.tasks i (actors i).thread slot TaskLife (m (actors i).thread tasks slot)
          (has_slot slot (owed (actors i)).tasks) same_thread life free in
          load_stays p w m events s actors i before (of_place w (own_place (actors i) slot) TaskLife) X
          (to_task next (actors i)) (sym (owes p w m events s actors i before C at))
          (goes_on p w m events s actors i before C at m next (actors i).gathered (own p w m events s actors i before C at).fits.variables refl
          (fits p w m events s actors i before C at, refl) there
          (loaded_goes p w m s (actors i) next place (row p w m events s actors i before C at), fresh))
      go false taken =
          let next : TaskCounter = task.LoadLife place (next_slot w tasks slot) in
          load_waits p w m events s actors i before (of_place w (own_place (actors i) slot) TaskLife) X
          (to_task next (actors i))
          (Waits.ForTaskRecord (inr makes)
          (record {
            slot = slot;
            within = within;
            address_is = ap (λ j. of_place w (record { creator = j; slot = slot }) TaskLife) same_thread;
            taken = taken_slot (s.tasks i slot) TaskLife (m (actors i).thread tasks slot) (has_slot slot (owed (actors i)).tasks) life ((slots_few p events s before.rule.reached).1 i slot) taken;
          }))
          (sym (owes p w m events s actors i before C at))
          (goes_on p w m events s actors i before C at m next (actors i).gathered (own p w m events s actors i before C at).fits.variables refl
          (fits p w m events s actors i before C at) (next_within w tasks slot within)
          (loaded_goes p w m s (actors i) next place (row p w m events s actors i before C at)))
