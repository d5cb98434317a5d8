use Rattle.omi_model.proofs.members.EncounterLaws.{encounters}
use Rattle.omi_model.proofs.machine_laws.regions_are_encountered.Goals as goal

pub returns : goal.returns
returns c = encounters
