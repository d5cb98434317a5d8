use Rattle.omi_model.proofs.members.ClosingItems.{lists_right}
use Rattle.omi_model.proofs.machine_laws.lists_are_right.Goals as goal

pub returns : goal.returns
returns c = lists_right
