use Rattle.omi_corefile.proofs.FileLaws.{some_answer, core_not_refused}
use Rattle.omi_corefile.proofs.laws.one_answer.Goals as goal

pub returns-clause-either : goal.returns-clause-either
returns-clause-either c = some_answer

pub returns-clause-not_both : goal.returns-clause-not_both
returns-clause-not_both c = core_not_refused
