use Rattle.std.proofs.Common.{◌∙◌}
use Rattle.omi_c.specs.ControlVars as shown
use Rattle.omi_c.proofs.Asked.{asked_reads, refused_in}
use Rattle.omi_c.proofs.variables.control_var.Goals as goal

pub returns-in_err-s : goal.returns-in_err-s
returns-in_err-s g c =
    refused_in c.args.table.now c.args.known.now (λ w. shown.control_var w c.args.place)
    c.from_residual.result _ c.from_residual.ensures.1 c.in_err-s.ensures.refused

pub returns : goal.returns
returns g c =
    c.replied.ensures
    ∙ asked_reads c.args.table.now c.args.known.now c.in_ok-s.s _ c.in_ok-s.ensures.opened
    (λ w. shown.control_var w c.args.place) c.shown_at-text.result c.shown_at-text.ensures
