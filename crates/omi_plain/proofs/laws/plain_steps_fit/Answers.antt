use Rattle.omi_plain.proofs.Fitting.{steps_fit}
use Rattle.omi_plain.proofs.StayPlaced.{steps_stay_placed}
use Rattle.omi_plain.proofs.laws.plain_steps_fit.Goals as goal

pub returns : goal.returns
returns c = record { fits = steps_fit; placed = steps_stay_placed }
