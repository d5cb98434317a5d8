use Rattle.std.proofs.Common.{◌∙◌}
use Rattle.omi_icv.specs.Icvs as icvs
use Rattle.omi_c.specs.Scopes.{reads_of}
use Rattle.omi_c.proofs.Asked.{asked_reads, refused_in}
use Rattle.omi_c.proofs.variables.icv_text.Goals as goal

pub returns-in_err-s : goal.returns-in_err-s
returns-in_err-s g c =
    refused_in c.args.table.now c.args.known.now (λ w. reads_of w c.args.object c.args.scope (λ held of. icvs.icv_string_from_scope w held of c.args.icv))
    c.from_residual.result _ c.from_residual.ensures.1 c.in_err-s.ensures.refused

pub returns : goal.returns
returns g c =
    c.replied.ensures
    ∙ asked_reads c.args.table.now c.args.known.now c.in_ok-s.s _ c.in_ok-s.ensures.opened
    (λ w. reads_of w c.args.object c.args.scope (λ held of. icvs.icv_string_from_scope w held of c.args.icv)) c.text_of-text.result c.text_of-text.ensures
