use Rattle.omi_run_lists.proofs.StepRooms.{one_less}
use Rattle.omi_run_lists.proofs.laws.steps_have_room.Goals as goal

pub returns-clause-one_less : goal.returns-clause-one_less
returns-clause-one_less c = one_less
