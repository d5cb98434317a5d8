use Rattle.omi_corefile.proofs.FileLaws.{cut_short, too_many}
use Rattle.omi_corefile.proofs.laws.fronts_and_tails.Goals as goal

pub returns-clause-short : goal.returns-clause-short
returns-clause-short c = cut_short

pub returns-clause-trailing : goal.returns-clause-trailing
returns-clause-trailing c = too_many
