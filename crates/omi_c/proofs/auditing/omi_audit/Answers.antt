use Rattle.omi_c.proofs.auditing.omi_audit.Goals as goal

pub returns : goal.returns
returns c = record { reply = c.verdict_on.result; is = c.verdict_on.ensures; spells = c.of.ensures }
