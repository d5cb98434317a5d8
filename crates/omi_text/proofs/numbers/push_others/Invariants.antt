use Rattle.std.proofs.Common.{◌≡◌, ◌++◌, drop}
use Rattle.std.specs.Prelude.{string_bytes}
use Rattle.omi_text.specs.Numbers.{after_commas}
use Rattle.omi_text.proofs.numbers.push_others.Given as goal

-- the numbers so far, and those that are left
abbrev pub invariant-loop-at : goal.invariant-loop-at
invariant-loop-at l =
    string_bytes l.text ++ after_commas (drop l.at l.list) ≡ string_bytes l.fn.text ++ after_commas (drop 1 l.list)
