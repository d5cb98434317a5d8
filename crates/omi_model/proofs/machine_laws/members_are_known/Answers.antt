use Rattle.omi_model.proofs.MembersKnown.{members_known}
use Rattle.omi_model.proofs.machine_laws.members_are_known.Goals as goal

pub returns : goal.returns
returns c = members_known
