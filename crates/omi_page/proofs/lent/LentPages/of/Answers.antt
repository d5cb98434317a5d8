use Rattle.omi_page.proofs.Telling.{no_other_order}
use Rattle.omi_page.proofs.lent.LentPages.of.Goals as goal

pub returns-clause-order : goal.returns-clause-order
returns-clause-order g c = record {
  known = c.args.pages.known;
  agrees = λ other told. no_other_order _ c.args.pages.order c.args.pages.contexts c.args.pages.spans other c.args.pages.parts told;
}
