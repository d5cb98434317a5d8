use Rattle.omi_model.proofs.members.ListOrder.{barriers_ordered}
use Rattle.omi_model.proofs.machine_laws.barriers_are_in_order.Goals as goal

pub returns : goal.returns
returns c = barriers_ordered
