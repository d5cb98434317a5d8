use Rattle.std.proofs.Common.{◌≡◌, ◌++◌}
use Rattle.omi_elf.specs.Header.{numbers_from}
use Rattle.omi_elf.proofs.gathering.put_words.Given as goal

abbrev pub invariant-loop-index : goal.invariant-loop-index
invariant-loop-index l = l.words ≡ l.fn.words ++ numbers_from l.order l.bytes l.at l.index
