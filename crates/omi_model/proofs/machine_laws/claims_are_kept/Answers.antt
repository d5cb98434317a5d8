use Rattle.omi_model.proofs.claims.ClaimLaws.{claims_kept}
use Rattle.omi_model.proofs.machine_laws.claims_are_kept.Goals as goal

pub returns : goal.returns
returns c = claims_kept
