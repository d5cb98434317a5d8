use Rattle.omi_model.proofs.groups.GroupLaws.{groups_may_begin, groups_right}
use Rattle.omi_model.proofs.groups.GroupMembers.{finished_groups_stay}
use Rattle.omi_model.proofs.machine_laws.groups_are_right.Goals as goal

pub returns-clause-right : goal.returns-clause-right
returns-clause-right c = groups_right

pub returns-clause-finished : goal.returns-clause-finished
returns-clause-finished c = finished_groups_stay

pub returns-clause-begin : goal.returns-clause-begin
returns-clause-begin c = groups_may_begin
