use Rattle.omi_layout.proofs.OneAnswer.{one_layout, one_cause, not_both}
use Rattle.omi_layout.proofs.laws.one_answer.Goals as goal

pub returns : goal.returns
returns c = record { layout = one_layout; cause = one_cause; both = not_both }
