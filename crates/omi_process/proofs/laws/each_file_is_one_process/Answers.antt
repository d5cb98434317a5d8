use Rattle.omi_process.proofs.OneProcess.{each_is_one}
use Rattle.omi_process.proofs.laws.each_file_is_one_process.Goals as goal

pub returns : goal.returns
returns c = each_is_one
