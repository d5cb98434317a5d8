use Rattle.omi_c.proofs.AskedAgain.{holds_on_each, comes_to_answer}
use Rattle.omi_c.proofs.laws.inquiries_come_to_answers.Goals as goal

pub returns : goal.returns
returns g c = record { holds = holds_on_each; comes = comes_to_answer }
