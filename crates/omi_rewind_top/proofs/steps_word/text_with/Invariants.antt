use Rattle.std.proofs.Common.{◌≡◌, take}
use Rattle.omi_rewind_top.proofs.steps_word.text_with.Given as goal

-- the bytes so far
abbrev pub invariant-loop-byte : goal.invariant-loop-byte
invariant-loop-byte l = l.text ≡ take l.byte-index l.byte-items
