use Rattle.omi_model.proofs.claims.ClaimLaws.{asks_in_order}
use Rattle.omi_model.proofs.machine_laws.asks_are_in_order.Goals as goal

pub returns : goal.returns
returns c = asks_in_order
