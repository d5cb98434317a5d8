use Rattle.std.proofs.Common.{rules}
use Rattle.omi_top.proofs.MadeTexts.{around}
use Rattle.omi_top.proofs.make.make_text.Goals as goal

pub returns : goal.returns
returns c = rw (around c.args.nodes) (search rules)
