use Rattle.omi_layout.proofs.Tables.{tables_give}
use Rattle.omi_layout.proofs.laws.tables_read_back.Goals as goal

pub returns : goal.returns
returns c = λ words has. tables_give c.args.layout.now.table words c.args.layout.now.valid has
