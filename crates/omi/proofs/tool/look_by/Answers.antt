use Rattle.std.proofs.Common.{◌∙◌}
use Rattle.omi_page.specs.Borrowed.{told_of}
use Rattle.omi.proofs.tool.look_by.Goals as goal

pub returns-in-Ok-clause-looked : goal.returns-in-Ok-clause-looked
returns-in-Ok-clause-looked g c = record {
  target = record {
    told = told_of c.in-Ok.session.table.calls.pages;
    layout = c.in-Ok.session.layout;
    threads = c.args.threads.now;
  };
  looked = c.look.ensures;
  is = λ core told threads. record {
    told = c.in-Ok.ensures.told ∙ told;
    layout = c.in-Ok.ensures.layout core told;
    threads = threads;
  };
}
