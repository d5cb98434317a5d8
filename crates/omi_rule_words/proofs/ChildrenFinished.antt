-- No child of a task is unfinished where the task's word for them is 0.
use Rattle.std.proofs.Common.{◌≡◌, ◌&&◌, ℕ, Bool, List, Some, ap, ◌∙◌, arith}
use Rattle.omi_model.specs.declared.id.Tid.{Tid}
use Rattle.omi_model.specs.declared.task.Task.{Task}
use Rattle.omi_model.specs.State.{State, task_of}
use Rattle.omi_model.specs.Tasking.{AreChildrenFinished}
use Rattle.omi_layout.specs.declared.field.Field.TheVariants.{TaskChildren}
use Rattle.omi_layout.specs.Field.{tasks}
use Rattle.omi_layout.specs.Memory.{Memory}
use Rattle.omi_layout.specs.Named.{number}
use Rattle.omi_rep.specs.Shows.{IsWithin}
use Rattle.omi_rule_words.specs.Owes.{Owed}
use Rattle.omi_rule_words.specs.Counts.{is_some_task, is_unfinished, one, unfinished_children}
use Rattle.omi_rule_words.specs.ExplicitKinds.{AllChildrenFinished}
use Rattle.omi_rule_words.specs.Words.{KeepsWords}
use Rattle.omi_rule_words.proofs.LiveTasks.{counts_of, over, task_part}
use Rattle.omi_rule_words.proofs.OtherCounts.{is_own_id}
use Rattle.omi_rule_words.proofs.OwedTasks.{and_true}

-- a child is counted where it is of a kind
pub child_counted : (b : Bool) (k : Tid) (u : Task) → u.generating ≡ Some k
    → one (b && is_some_task k u.generating) ≡ one b
child_counted b k u made =
    ap (λ o. one (b && is_some_task k o)) made ∙ (ap (λ x. one (b && x)) (is_own_id k.0) ∙ and_true b)

module _ (w : List ℕ) (m : Memory) (s : State) (owes : ℕ → Owed) (k : Tid) (t : Task)
    (keeps : KeepsWords w m s owes) (within : IsWithin w s) (live : task_of s k ≡ Some t)
    (word : m k.0.creator tasks k.0.slot (number TaskChildren) 0 ≡ 0) where
  none_unfinished : unfinished_children w s k ≡ 0
  none_unfinished = let is = (counts_of w s within m owes keeps k t live).children in omega (arith, is, word)

  -- so each child has finished
  pub children_finished : AreChildrenFinished s k
  children_finished c j u there explicit made =
      let part =
      task_part w s within (λ _ _ x. one (is_unfinished x && is_some_task k x.generating)) c j u there in
      let own = child_counted (is_unfinished u) k u made in
      let none = none_unfinished in
      over u explicit (omega (arith, part, own, none))

pub all_children_finished : AllChildrenFinished
all_children_finished =
    λ w m s owes k t keeps within live word. children_finished w m s owes k t keeps within live word
