use Rattle.omi_layout.proofs.Puts.{word_back, word_read, word_stays}
use Rattle.omi_layout.proofs.Stored.{on_word, left, mapped, fitted}
use Rattle.omi_layout.proofs.laws.records_framed.Goals as goal

pub returns : goal.returns
returns c = record {
  replaced = λ m. record { written = word_read m; others = word_stays m; kept = word_back m };
  framed = on_word c.args.layout.now.table c.args.layout.now.valid;
  left = left c.args.layout.now.table c.args.layout.now.valid;
  mapped = mapped c.args.layout.now.table c.args.layout.now.valid;
  fitted = fitted c.args.layout.now.table c.args.layout.now.valid;
}
