-- No task of a group is unfinished where the count of the group is 0.
use Rattle.std.proofs.Common.{◌≡◌, ◌&&◌, ◌+◌, ◌<◌, ℕ, Bool, List, Some, ap, ◌∙◌, arith}
use Rattle.omi_numbers.specs.declared.limits.TheConstants.{OPEN_GROUPS}
use Rattle.omi_model.specs.declared.group.Group.{Group}
use Rattle.omi_model.specs.declared.task.Task.{Task}
use Rattle.omi_model.specs.Groups.{AreMembersFinished}
use Rattle.omi_model.specs.State.{State, task_of}
use Rattle.omi_layout.specs.Memory.{Memory}
use Rattle.omi_rep.specs.Shows.{IsWithin}
use Rattle.omi_rule_words.specs.Owes.{Owed}
use Rattle.omi_rule_words.specs.Counts.{is_unfinished, one, sum_of_owed}
use Rattle.omi_rule_words.specs.CountKinds.{count_of}
use Rattle.omi_rule_words.specs.ExplicitKinds.{AllMembersFinished}
use Rattle.omi_rule_words.specs.Groups.{count_owed, is_some_group, unfinished_members}
use Rattle.omi_rule_words.specs.Words.{KeepsWords}
use Rattle.omi_rule_words.proofs.CountWords.{own_group}
use Rattle.omi_rule_words.proofs.LiveTasks.{over, task_part}
use Rattle.omi_rule_words.proofs.OwedTasks.{and_true}

module _ (w : List ℕ) (m : Memory) (s : State) (owes : ℕ → Owed) (g : Group) (t : Task)
    (keeps : KeepsWords w m s owes) (within : IsWithin w s) (live : task_of s g.owner ≡ Some t)
    (few : g.index < OPEN_GROUPS) (word : count_of m g ≡ 0) where
  none_unfinished : unfinished_members w s g ≡ 0
  none_unfinished =
      let is : count_of m g ≡ unfinished_members w s g + sum_of_owed s owes (count_owed s g) =
      keeps.groups.counts g.owner t g.index live few in
      omega (arith, is, word)

  -- a member is counted where it is of a kind
  member_counted : (b : Bool) (u : Task) → u.group ≡ Some g → one (b && is_some_group g u.group) ≡ one b
  member_counted b u member =
      ap (λ o. one (b && is_some_group g o)) member ∙ (ap (λ x. one (b && x)) (own_group g) ∙ and_true b)

  -- so each member has finished
  pub members_finished : AreMembersFinished s g
  members_finished c j u there explicit member =
      let part =
      task_part w s within (λ _ _ x. one (is_unfinished x && is_some_group g x.group)) c j u there in
      let own = member_counted (is_unfinished u) u member in
      let none = none_unfinished in
      over u explicit (omega (arith, part, own, none))

pub all_members_finished : AllMembersFinished
all_members_finished =
    λ w m s owes g t keeps within live few word. members_finished w m s owes g t keeps within live few word
