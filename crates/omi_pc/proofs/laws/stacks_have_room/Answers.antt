use Rattle.omi_pc.proofs.Downwards.{bodies_go_down, bodies_have_room, few_bodies}
use Rattle.omi_pc.proofs.Depths.{depths_count_tasks}
use Rattle.omi_pc.proofs.NamedBelow.{names_are_smaller}
use Rattle.omi_pc.proofs.laws.stacks_have_room.Goals as goal

pub returns-clause-named : goal.returns-clause-named
returns-clause-named c = names_are_smaller

pub returns-clause-down : goal.returns-clause-down
returns-clause-down c = bodies_go_down

pub returns-clause-few : goal.returns-clause-few
returns-clause-few c = few_bodies

pub returns-clause-room : goal.returns-clause-room
returns-clause-room c = bodies_have_room

pub returns-clause-depth : goal.returns-clause-depth
returns-clause-depth c = depths_count_tasks
