use Rattle.std.proofs.Common.{ap, ◌∙◌}
use Rattle.omi_page.specs.Borrowed.{told_of}
use Rattle.omi_top.proofs.question.ask_pages.Goals as goal

pub returns-clause-answered : goal.returns-clause-answered
returns-clause-answered g c =
    λ core is same. c.ask_calls-answer.ensures.answered core (ap told_of c.of-lent.ensures.pages ∙ is) same
