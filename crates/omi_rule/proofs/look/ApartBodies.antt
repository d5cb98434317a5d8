-- No open body is that of a deferred task.
use Rattle.std.proofs.Common.{◌≡◌, ℕ, List, [], ◌∷◌, Some, ap, ◌∙◌, subst}
use Rattle.omi_script.specs.declared.program.Program.{Program}
use Rattle.omi_model.specs.declared.id.Tid.{Tid}
use Rattle.omi_model.specs.declared.task.Task.{Task}
use Rattle.omi_model.specs.State.{State, task_of}
use Rattle.omi_model.proofs.Slots.{some_same}
use Rattle.omi_pc.specs.declared.context.Context.{Context}
use Rattle.omi_pc.specs.declared.frame.Frame.{Frame}
use Rattle.omi_pc.specs.declared.frame.Opened.{Opened}
use Rattle.omi_pc.specs.declared.frame.Opened.TheVariants as opened
use Rattle.omi_pc.specs.Moves.{context_under}
use Rattle.omi_rule_words.specs.ExplicitKinds.{IsDeferred}
use Rattle.omi_rule.specs.Chains.{KeepsBodies, KeepsContext}
use Rattle.omi_rule.proofs.Own.{AreBelow, IsBelow}
use Rattle.omi_rule.proofs.OthersStand.{begun_undeferred, of_innermost}

module _ (p : Program) (s : State) (i : ℕ) (k : Tid) (t : Task) (is : IsDeferred s k t) where
  pub other_task : (c : Context) → KeepsContext s i c → c.task ≡ k → ⊥
  other_task c o same =
      let one : o.task ≡ t = some_same (subst (λ (n : Tid). task_of s n ≡ Some o.task) same o.live) is.live in
      begun_undeferred o.task o.begun (ap (λ (x : Task). x.progress) one ∙ is.progress)

  is_below : (c : Context) (o : Opened) → KeepsContext s i (context_under c o) → IsBelow k o
  is_below c opened.Main top = tt
  is_below c opened.Worker top = tt
  is_below c (opened.Master saved) top = other_task saved top
  is_below c (opened.Task v saved) top = other_task saved top
  is_below c opened.Call top = tt
  is_below c (opened.Repeat left) top = tt
  is_below c (opened.Critical lock) top = tt
  is_below c opened.Taskgroup top = tt

  pub are_below : (c : Context) (fs : List Frame) → KeepsBodies p s i c fs → AreBelow k fs
  are_below c [] o = tt
  are_below c (f ∷ fs) (o, body, rest) =
      (is_below c f.opened (of_innermost p s i (context_under c f.opened) fs rest), are_below (context_under c f.opened) fs rest)
