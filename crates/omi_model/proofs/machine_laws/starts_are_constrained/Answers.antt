use Rattle.omi_model.proofs.Scheduling.{starts_are_constrained}
use Rattle.omi_model.proofs.SchedulingChains.{scheduling_right}
use Rattle.omi_model.proofs.machine_laws.starts_are_constrained.Goals as goal

pub returns-clause-starts : goal.returns-clause-starts
returns-clause-starts c = starts_are_constrained

pub returns-clause-scheduled : goal.returns-clause-scheduled
returns-clause-scheduled c = scheduling_right
