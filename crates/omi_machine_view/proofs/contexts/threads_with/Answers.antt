use Rattle.std.proofs.Common.{Some, sym, ap, ◌∙◌, ◌++◌, ◌∷◌, []}
use Rattle.omi_model.specs.Views.{thread_with}
use Rattle.omi_machine.specs.Kept.{state_of}
use Rattle.omi_machine_view.proofs.Takes.{made_more, none_more}
use Rattle.omi_machine_view.proofs.contexts.threads_with.Goals as goal
use Rattle.omi_machine_view.proofs.contexts.threads_with.Goals.{in-Some+in_ok-narrow+in_ok-push, in_default}

pub loop-at-preserved : goal.loop-at-preserved
loop-at-preserved c =
    let s = state_of c.args.s.now in
    let contexts = c.args.contexts.now in
    elim c.match-thread_with.branch [
      | in-Some+in_ok-narrow+in_ok-push w ↦
          w.threads-is
          ∙ w.in_ok-push.ensures.added
          ∙ ap (λ threads. threads ++ w.in_ok-narrow.field-0 ∷ []) c.loop-at.invariant
          ∙ sym
          (made_more (thread_with s) contexts c.loop-at.at c.get.result.now w.in_ok-narrow.field-0 c.get.ensures (sym c.thread_with.ensures ∙ w.in-Some.is ∙ ap Some (sym w.in_ok-narrow.ensures)))
      | in_default w ↦
          w.threads-is ∙ c.loop-at.invariant
          ∙ sym
          (none_more (thread_with s) contexts c.loop-at.at c.get.result.now c.get.ensures (sym c.thread_with.ensures ∙ w.in_default.is))
    ]
