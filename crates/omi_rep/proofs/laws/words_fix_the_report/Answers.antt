use Rattle.omi_rep.proofs.SameReport.{report_fixed}
use Rattle.omi_rep.proofs.laws.words_fix_the_report.Goals as goal

pub returns : goal.returns
returns c = report_fixed
