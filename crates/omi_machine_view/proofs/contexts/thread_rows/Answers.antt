use Rattle.std.proofs.Common.{sym, ap, ◌∙◌, ◌++◌, ◌∷◌, [], map, take}
use Rattle.omi_model.specs.Views.{thread_row}
use Rattle.omi_machine.specs.Kept.{state_of}
use Rattle.omi_machine_view.proofs.Takes.{map_more}
use Rattle.omi_machine_view.proofs.contexts.thread_rows.Goals as goal

pub loop-at-preserved : goal.loop-at-preserved
loop-at-preserved c =
    let s = state_of c.args.s.now in
    c.in_ok-push.ensures.added ∙ ap (λ rows. rows ++ c.in_ok-thread_row.field-0 ∷ []) c.loop-at.invariant
    ∙ ap
    (λ row. map (thread_row s) (take c.loop-at.at c.args.contexts.now) ++ row ∷ []) c.in_ok-thread_row.ensures
    ∙ sym (map_more (thread_row s) c.args.contexts.now c.loop-at.at c.get.result.now c.get.ensures)
