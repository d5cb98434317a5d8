use Rattle.omi_top.proofs.OneRun.{makes_determined, runs_determined, stops_determined}
use Rattle.omi_top.proofs.laws.runs_are_determined.Goals as goal

pub returns-clause-runs : goal.returns-clause-runs
returns-clause-runs c = runs_determined

pub returns-clause-stops : goal.returns-clause-stops
returns-clause-stops c = stops_determined

pub returns-clause-makes : goal.returns-clause-makes
returns-clause-makes c = makes_determined
