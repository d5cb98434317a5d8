use Rattle.std.proofs.Common.{◌≡◌, drop}
use Rattle.omi_calls.specs.CoreWords.{words_of_segments}
use Rattle.omi_calls.proofs.core_words.core_word.Given as goal

abbrev pub invariant-loop-at : goal.invariant-loop-at
invariant-loop-at l =
    words_of_segments l.core.segments l.addr ≡ words_of_segments (drop l.at l.core.segments) l.addr
