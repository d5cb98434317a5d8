use Rattle.omi_corefile.proofs.FileLaws.{core_unique}
use Rattle.omi_corefile.proofs.laws.one_spelling.Goals as goal

pub returns-clause-one_core : goal.returns-clause-one_core
returns-clause-one_core c = core_unique
