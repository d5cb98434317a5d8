use Rattle.std.proofs.Common.{ap}
use Rattle.std.specs.Global.{Vec}
use Rattle.std.specs.Prelude.{string_bytes}
use Rattle.std.proofs.lemmas.Result.{err_from_is_err_and}
use Rattle.omi_top.proofs.Auditing.{audit_judged, audit_refused}
use Rattle.omi_top.proofs.audit.audit.Goals as goal

pub returns-in_err-verdict-clause-answer : goal.returns-in_err-verdict-clause-answer
returns-in_err-verdict-clause-answer g c = λ old (content, told).
    let p = err_from_is_err_and c.from_residual.result c.from_residual.ensures.1 in
    rw (p.1, p.2)
    (audit_refused c.args.core.now (g.F.Files.told c.args.files.now) content told old c.in_err-verdict.field-0.0 (c.in_err-verdict.ensures.answered content told))

pub returns-clause-answer : goal.returns-clause-answer
returns-clause-answer g c = λ old (content, told).
    audit_judged c.args.core.now
    (g.F.Files.told c.args.files.now) content told old c.in_ok-verdict.verdict c.into_bytes.result (string_bytes c.in_ok-line.line)
    (c.in_ok-verdict.ensures.answered content told) c.in_ok-line.ensures (ap (λ (v : Vec _). v.items) c.into_bytes.ensures.value)
