-- An event of a thread within a `task` construct: the next item of its task is taken, and the same bodies stay open.
use Rattle.std.proofs.Common.{◌≡◌, ◌||◌, ℕ, Bool, List, ◌∷◌, Option, Some, unwrap_or, sym, ap, ◌∙◌, subst, if◌then◌else◌}
use Rattle.std.specs.Option.{option_and_then}
use Rattle.omi_script.specs.declared.program.Program.{Program}
use Rattle.omi_script.specs.declared.statement.Stmt.TheVariants as stmt
use Rattle.omi_model.specs.declared.encounter.Encounter.{Encounter}
use Rattle.omi_model.specs.declared.event.Event.{Event}
use Rattle.omi_model.specs.declared.item.Item.{Item}
use Rattle.omi_model.specs.declared.item.Item.TheVariants as item
use Rattle.omi_model.specs.declared.task.Task.{Task}
use Rattle.omi_model.specs.Changes.{encounter_by, ahead_of, on_task, with_list}
use Rattle.omi_model.specs.Lists.{stays, take_item}
use Rattle.omi_model.specs.Reached.{Step}
use Rattle.omi_model.specs.Rules.{Rule, effect, moved, taken_by}
use Rattle.omi_model.specs.State.{State}
use Rattle.omi_model.proofs.Slots.{some_same}
use Rattle.omi_model.proofs.Steps.{relisted}
use Rattle.omi_layout.specs.Memory.{Memory}
use Rattle.omi_pc.specs.declared.actor.Actor.{Actor}
use Rattle.omi_pc.specs.declared.counter.Counter.TheVariants as counter
use Rattle.omi_pc.specs.declared.frame.Frame.{Frame}
use Rattle.omi_pc.specs.declared.task_counter.TaskCounter.{TaskCounter}
use Rattle.omi_pc.specs.OpenBodies.{IsAt}
use Rattle.omi_pc.specs.declared.counter.Counter.{Counter}
use Rattle.omi_rule_words.specs.Owes.{all_owed}
use Rattle.omi_rule_words.specs.Words.{KeepsWords}
use Rattle.omi_rule_words.proofs.ListMoves.{list_moves_keep}
use Rattle.omi_rule.specs.Ahead.{leaving, making, task_ahead, task_item}
use Rattle.omi_rule.specs.Chains.{encounter_of, IsPassable, IsFront}
use Rattle.omi_rule.specs.Rule.{AreNewMembers}
use Rattle.omi_rule.proofs.Assembly.{Before}
use Rattle.omi_rule.proofs.NewMembers.{waiting_step}
use Rattle.omi_rule.proofs.OwnTask.{list_moved, own_encounter, own_taken, top, own_front}
use Rattle.omi_rule.proofs.Settling.{in_work_is}
use Rattle.omi_rule.proofs.task.Within.{context, list_is, stands}

-- ---- what is ahead

-- a task is deferred where a slot is empty, unless it is undeferred or the task that makes it is final
pub making_is : (p : Program) (at : Encounter) (fs : List Frame) (place : Option ℕ) (f : ℕ) (undeferred final b : Bool)
    → IsAt p fs (stmt.Task f undeferred final) → undeferred || at.is_final ≡ b
    → making p at fs place ≡ (if b then item.StartNow f (final || at.is_final) else item.Defer (unwrap_or place 4) f (final || at.is_final)) ∷ leaving p at fs
making_is p at fs place f undeferred final b is now =
    in_work_is p fs (stmt.Task f undeferred final) (λ x. task_item at place x (leaving p at fs)) is
    ∙ ap
    (λ (x : Bool). (if x then item.StartNow f (final || at.is_final) else item.Defer (unwrap_or place 4) f (final || at.is_final)) ∷ leaving p at fs) now

module _ (p : Program) (w : List ℕ) (m : Memory) (events : List (ℕ × Event)) (s : State) (actors : ℕ → Actor)
    (i : ℕ) (before : Before p w m events s actors i) (c : TaskCounter)
    (at : (actors i).counter ≡ counter.Task c) where
  abbrev At : Encounter
  At = encounter_of s (actors i).context

  -- the task is final where the register says so
  pub sees_final : (encounter_of s (actors i).context).is_final ≡ (actors i).context.is_final
  sees_final =
      let o = context p w m events s actors i before c at in
      ap (λ (x : Option Task). (encounter_by s x).is_final) o.live ∙ o.final

  -- ---- the event is legal

  passes : IsPassable (top p s i (actors i) (stands p w m events s actors i before c at)).task.frees
  passes =
      subst (λ (d : Counter). IsFront d (top p s i (actors i) (stands p w m events s actors i before c at)).task.frees) at
      (own_front p s i (actors i) (stands p w m events s actors i before c at))

  pub takes : (e : Event) (y : Item) (ys : List Item)
      → take_item p (encounter_of s (actors i).context) e (task_ahead p (encounter_of s (actors i).context) (actors i).stack c) ≡ Some (y, ys)
      → taken_by p s i e ≡ Some (y, ys)
  takes e y ys taken =
      ap (λ (x : Encounter). take_item p x e (ahead_of s i))
      (own_encounter p s i (actors i) (stands p w m events s actors i before c at))
      ∙ own_taken p s i (actors i) (stands p w m events s actors i before c at) events before.rule.reached passes At e y ys
      (ap (λ (xs : List Item). take_item p At e xs) (list_is p w m events s actors i before c at) ∙ taken)

  pub step : (e : Event) (y : Item) (ys zs : List Item) (u : State)
      → take_item p (encounter_of s (actors i).context) e (task_ahead p (encounter_of s (actors i).context) (actors i).stack c) ≡ Some (y, ys)
      → Rule s i e y
      → stays (encounter_of s (actors i).context) e y ys ≡ zs → effect p (on_task s (actors i).context.task (relisted zs)) i e y ≡ Some u → Step p s i e u
  step e y ys zs u taken rule stay is = record {
    legal = record { known = before.known; item = y; behind = ys; taken = takes e y ys taken; rule = rule };
    after_is =
        ap (option_and_then (moved p s i e)) (takes e y ys taken)
        ∙ ap (λ (x : Encounter). effect p (with_list s i (stays x e y ys)) i e y)
        (own_encounter p s i (actors i) (stands p w m events s actors i before c at))
        ∙ ap (λ (xs : List Item). effect p (with_list s i xs) i e y) stay
        ∙ ap (λ (z : State). effect p z i e y)
        (list_moved p s i (actors i) (stands p w m events s actors i before c at) zs)
        ∙ is;
  }

  -- the words once the list has moved on
  pub words_moved : (zs : List Item)
      → KeepsWords w m (on_task s (actors i).context.task (relisted zs)) (all_owed actors)
  words_moved zs =
      subst (λ (z : State). KeepsWords w m z (all_owed actors))
      (list_moved p s i (actors i) (stands p w m events s actors i before c at) zs)
      (list_moves_keep w m s (all_owed actors) i zs before.rule.words before.known)

  -- no task that waits for its thread is made
  pub none_new : (e : Event) (y : Item) (ys : List Item) (u : State)
      → take_item p (encounter_of s (actors i).context) e (task_ahead p (encounter_of s (actors i).context) (actors i).stack c) ≡ Some (y, ys)
      → Step p s i e u → ((f : ℕ) → y ≡ item.Fork f → ⊥) → AreNewMembers p u
  none_new e y ys u taken done none =
      waiting_step p s i e u done
      (λ x is f fork. absurd (none f (sym (ap (λ (q : Item × List Item). q.0) (some_same is (takes e y ys taken))) ∙ fork)))
      before.rule.waiting
