use Rattle.std.proofs.Common.{rules, tests, length, ◌==◌}
use Rattle.std.proofs.lemmas.Iterator.Search.{any_from_yields_List}
use Rattle.std.proofs.lemmas.Iterator.Splits.{YieldsList-from_slice_split}
use Rattle.omi_script.specs.Numbers.{is_comma}
use Rattle.omi_script.proofs.head_lines.has_empty_piece.Goals as goal

pub returns : goal.returns
returns c =
    any_from_yields_List (λ piece. length piece == 0) _ _ _ c.any.ensures.ran
    (YieldsList-from_slice_split _ is_comma c.args.word.now c.split.ensures.rest c.split.ensures.done c.split.ensures.closure (λ x b q k. search (rules, tests)))
    (λ x b q k. search (rules, tests))
