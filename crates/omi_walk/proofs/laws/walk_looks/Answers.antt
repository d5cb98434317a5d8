use Rattle.omi_walk.proofs.AskedView.{looked_view}
use Rattle.omi_walk.proofs.laws.walk_looks.Goals as goal

pub returns : goal.returns
returns c = looked_view
