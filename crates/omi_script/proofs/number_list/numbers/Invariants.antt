use Rattle.std.proofs.Common.{◌≡◌, ◌++◌, map, length}
use Rattle.std.specs.Option.{option_map, option_copied}
use Rattle.omi_script.specs.Numbers.{each_of, items_left, number_of, numbers_of}
use Rattle.omi_script.proofs.number_list.numbers.Given as goal

-- the numbers so far and those of what is left are those of the word
abbrev pub invariant-loop-left : goal.invariant-loop-left
invariant-loop-left l =
    option_map (λ ms. l.list ++ ms) (each_of (map (number_of l.least l.most) (items_left (option_copied l.left)))) ≡ numbers_of l.least l.most l.word

abbrev pub decreases-loop-left : goal.decreases-loop-left
decreases-loop-left l = length (items_left (option_copied l.left))
