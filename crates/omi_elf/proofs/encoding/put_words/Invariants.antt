use Rattle.std.proofs.Common.{◌≡◌, ◌++◌, take}
use Rattle.omi_corefile.specs.Spelling.{words_in}
use Rattle.omi_elf.proofs.encoding.put_words.Given as goal

abbrev pub invariant-loop-at : goal.invariant-loop-at
invariant-loop-at l = l.out.items ≡ l.fn.out.items ++ words_in l.order (take l.at l.words)
