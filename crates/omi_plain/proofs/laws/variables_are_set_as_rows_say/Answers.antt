use Rattle.omi_plain.proofs.Sets.{sets_as_rows}
use Rattle.omi_plain.proofs.laws.variables_are_set_as_rows_say.Goals as goal

pub returns : goal.returns
returns c = sets_as_rows
