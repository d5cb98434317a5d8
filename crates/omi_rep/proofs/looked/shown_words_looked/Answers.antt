use Rattle.omi_rep.proofs.shown.ShownViews.{shown_looked}
use Rattle.omi_rep.proofs.looked.shown_words_looked.Goals as goal

pub returns : goal.returns
returns c = shown_looked
