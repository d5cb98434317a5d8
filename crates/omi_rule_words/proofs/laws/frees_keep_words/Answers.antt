use Rattle.omi_rule_words.proofs.MemberFrees.{member_frees_keep}
use Rattle.omi_rule_words.proofs.RegionFrees.{region_frees_keep}
use Rattle.omi_rule_words.proofs.TaskFrees.{task_frees_keep}
use Rattle.omi_rule_words.proofs.laws.frees_keep_words.Goals as goal

pub returns : goal.returns
returns c = record { task = task_frees_keep; member = member_frees_keep; region = region_frees_keep }
