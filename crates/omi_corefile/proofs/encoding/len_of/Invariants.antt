use Rattle.std.proofs.Common.{◌≡◌, ◌+◌, ◌*◌, length, take}
use Rattle.omi_corefile.specs.Limits.{total_words}
use Rattle.omi_corefile.proofs.encoding.len_of.Given as goal

abbrev pub invariant-loop-at : goal.invariant-loop-at
invariant-loop-at l =
    l.len ≡ 16 + 8 * length l.c.contexts + 16 * l.at + 8 * total_words (take l.at l.c.segments)
