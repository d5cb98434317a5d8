use Rattle.std.proofs.Common.{◌∙◌}
use Rattle.omi_layout.specs.declared.field.Field.TheVariants.{RuntimeVersion}
use Rattle.omi_rep.specs.Records.{runtime_address}
use Rattle.omi_session.specs.Inquiry.{word_of}
use Rattle.omi_c.proofs.Asked.{asked_reads, refused_in}
use Rattle.omi_c.proofs.library.openmp_version.Goals as goal

pub returns-in_err-s : goal.returns-in_err-s
returns-in_err-s g c =
    refused_in c.args.table.now c.args.known.now (λ w. word_of w (runtime_address w) RuntimeVersion 0)
    c.from_residual.result _ c.from_residual.ensures.1 c.in_err-s.ensures.refused

pub returns : goal.returns
returns g c =
    c.replied.ensures
    ∙ asked_reads c.args.table.now c.args.known.now c.in_ok-s.s _ c.in_ok-s.ensures.opened
    (λ w. word_of w (runtime_address w) RuntimeVersion 0) c.get_omp_version-version.result c.get_omp_version-version.ensures.answer
