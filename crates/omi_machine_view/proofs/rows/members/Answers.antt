use Rattle.std.proofs.Common.{sym, ap, ◌∙◌, ◌++◌, ◌∷◌, []}
use Rattle.omi_machine_view.proofs.Takes.{map_more}
use Rattle.omi_machine_view.proofs.rows.members.Goals as goal

pub loop-at-preserved : goal.loop-at-preserved
loop-at-preserved c =
    c.in_ok-push.ensures.added
    ∙ ap
    (λ rows. rows ++ record { thread = c.get-thread.result.1; task = c.get-thread.result.0 } ∷ []) c.loop-at.invariant
    ∙ sym
    (map_more (λ m. record { thread = m.1; task = m.0 }) c.args.team.now c.loop-at.at c.get-thread.result c.get-thread.ensures)
