use Rattle.omi_pc.proofs.Moved.{returned_fits, worked_fits, working_fits}
use Rattle.omi_pc.proofs.Settled.{settled_fits}
use Rattle.omi_pc.proofs.laws.moves_fit.Goals as goal

pub returns-clause-settling : goal.returns-clause-settling
returns-clause-settling c = settled_fits

pub returns-clause-returning : goal.returns-clause-returning
returns-clause-returning c = returned_fits

pub returns-clause-working : goal.returns-clause-working
returns-clause-working c = working_fits

pub returns-clause-going_on : goal.returns-clause-going_on
returns-clause-going_on c = worked_fits
