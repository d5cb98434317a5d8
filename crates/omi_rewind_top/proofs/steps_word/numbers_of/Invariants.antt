use Rattle.std.proofs.Common.{◌≡◌, drop, map}
use Rattle.omi_rewind_top.specs.Command.{numbers_in}
use Rattle.omi_rewind_top.proofs.Parts.{numbers_behind}
use Rattle.omi_rewind_top.proofs.steps_word.numbers_of.Given as goal

-- the numbers so far, and behind them those of the parts that are left
abbrev pub invariant-loop-part : goal.invariant-loop-part
invariant-loop-part l =
    numbers_in (map (λ p. p.now) l.parts) ≡ numbers_behind l.steps.items (map (λ p. p.now) (drop l.part-index l.parts))
