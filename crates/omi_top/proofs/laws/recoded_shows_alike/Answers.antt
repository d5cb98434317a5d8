use Rattle.omi_top.proofs.Recoded.{one_answer, recoded_alike, shows_alike}
use Rattle.omi_top.proofs.laws.recoded_shows_alike.Goals as goal

pub returns-clause-alike : goal.returns-clause-alike
returns-clause-alike c = λ order bytes copy recoded. shows_alike bytes copy (recoded_alike order bytes copy recoded)

pub returns-clause-once : goal.returns-clause-once
returns-clause-once c = one_answer
