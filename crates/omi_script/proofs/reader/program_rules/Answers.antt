use Rattle.omi_script.proofs.RuleLemmas.{Rules-from_accepted}
use Rattle.omi_script.proofs.reader.program_rules.Goals as goal

pub returns : goal.returns
returns c = Rules-from_accepted
