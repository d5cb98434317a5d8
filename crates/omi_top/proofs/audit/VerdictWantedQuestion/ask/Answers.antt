use Rattle.std.proofs.Common.{◌∙◌}
use Rattle.omi_layout.specs.Valid.{IsValid}
use Rattle.omi.proofs.NoTargets.{tells_core}
use Rattle.omi_top.proofs.Auditing.{audit_judged_by, unopened_judged}
use Rattle.omi_top.specs.Cores.{words_of_core}
use Rattle.omi_top.proofs.audit.VerdictWantedQuestion.ask.Goals as goal

pub returns-in-Err-clause-answered : goal.returns-in-Err-clause-answered
returns-in-Err-clause-answered g c =
    λ core is same. unopened_judged core c.in-Err.refusal (c.in-Err.ensures.refused core is)

pub returns-clause-answered : goal.returns-clause-answered
returns-clause-answered g c = λ core is same.
    let valid : IsValid c.in-Ok.session.layout = c.has_valid_layout.ensures in
    rw c.judged-verdict.ensures
    (audit_judged_by core c.in-Ok.session.layout c.audit.result valid (c.in-Ok.ensures.layout core is)
    (c.audit.ensures.verdict (words_of_core core) (tells_core core (g.C.Callbacks.told c.in-Ok.session.table.calls) (c.in-Ok.ensures.told ∙ is))))
