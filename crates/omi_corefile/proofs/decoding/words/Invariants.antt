use Rattle.std.proofs.Common.{◌≡◌, ◌-◌, length}
use Rattle.omi_corefile.specs.Refusals.{words_at}
use Rattle.omi_corefile.proofs.Rows.{with_front}
use Rattle.omi_corefile.proofs.decoding.words.Given as goal

abbrev pub invariant-loop : goal.invariant-loop
invariant-loop l = record {
  read : with_front l.words (words_at l.len l.order (l.count - l.counter) l.rest) ≡ words_at l.len l.order l.count l.bytes;
  so_many : length l.words ≡ l.counter;
}
