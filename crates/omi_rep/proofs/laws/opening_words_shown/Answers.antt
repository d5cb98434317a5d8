use Rattle.omi_rep.proofs.Opened.{opening_shown}
use Rattle.omi_rep.proofs.laws.opening_words_shown.Goals as goal

pub returns : goal.returns
returns c = opening_shown
