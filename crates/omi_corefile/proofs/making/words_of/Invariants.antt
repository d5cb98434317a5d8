use Rattle.std.proofs.Common.{◌≡◌, take}
use Rattle.std.specs.Prelude.{IsTrue}
use Rattle.omi_corefile.specs.Limits.{are_words}
use Rattle.omi_corefile.proofs.making.words_of.Given as goal

abbrev pub invariant-loop-at : goal.invariant-loop-at
invariant-loop-at l = record { value : l.words ≡ take l.at l.image; fit : IsTrue (are_words l.words) }
