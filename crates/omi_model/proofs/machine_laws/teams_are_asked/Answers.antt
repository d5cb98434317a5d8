use Rattle.omi_model.proofs.AskedTeams.{teams_asked}
use Rattle.omi_model.proofs.machine_laws.teams_are_asked.Goals as goal

pub returns : goal.returns
returns c = teams_asked
