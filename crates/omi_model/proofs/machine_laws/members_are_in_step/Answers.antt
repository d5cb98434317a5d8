use Rattle.omi_model.proofs.members.MembersInStep.{members_in_step}
use Rattle.omi_model.proofs.machine_laws.members_are_in_step.Goals as goal

pub returns : goal.returns
returns c = members_in_step
