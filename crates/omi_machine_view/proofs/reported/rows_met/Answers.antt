use Rattle.std.proofs.Common.{◌≡◌, ◌<◌, length, get_or, Some, None, sym, ap, ◌∙◌, ◌++◌, ◌∷◌, [], arith}
use Rattle.std.proofs.lemmas.Option.{slice_get-get_or}
use Rattle.omi_machine.specs.Kept.{state_of}
use Rattle.omi_machine_view.specs.Reported.{row_met}
use Rattle.omi_machine_view.proofs.Takes.{made_more, none_more}
use Rattle.omi_machine_view.proofs.reported.rows_met.Goals as goal
use Rattle.omi_machine_view.proofs.reported.rows_met.Goals.{in-Some+in_ok-push, in_default}

pub loop-met-preserved : goal.loop-met-preserved
loop-met-preserved c =
    let s = state_of c.args.s.now in
    let met = c.deref-met-items.result.now in
    let i = c.loop-met.met-index in
    let inside : i < length met = omega arith in
    let at = slice_get-get_or met i None inside in
    elim c.match-branch-2.branch [
      | in-Some+in_ok-push w ↦
          w.rows-is
          ∙ w.in_ok-push.ensures.added
          ∙ ap (λ rows. rows ++ w.in-Some.row ∷ []) c.loop-met.invariant
          ∙ sym
          (made_more (row_met s) met i (get_or met i None) w.in-Some.row at (sym c.in_ok-row.ensures ∙ w.in-Some.is))
      | in_default w ↦
          w.rows-is
          ∙ c.loop-met.invariant
          ∙ sym
          (none_more (row_met s) met i (get_or met i None) at (sym c.in_ok-row.ensures ∙ w.in_default.is))
    ]
