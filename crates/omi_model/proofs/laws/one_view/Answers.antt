use Rattle.omi_model.proofs.OneView.{view_unique}
use Rattle.omi_model.proofs.OpeningViews.{opening_viewed}
use Rattle.omi_model.proofs.laws.one_view.Goals as goal

pub returns-clause-one : goal.returns-clause-one
returns-clause-one c = view_unique

pub returns-clause-opening : goal.returns-clause-opening
returns-clause-opening c = opening_viewed
