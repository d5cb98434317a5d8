use Rattle.omi_pc.proofs.OpeningActors.{opened_fits}
use Rattle.omi_pc.proofs.laws.opening_fits.Goals as goal

pub returns : goal.returns
returns c = opened_fits
