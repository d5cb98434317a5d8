-- Pairs that a comma joins.
use Rattle.std.proofs.Common.{◌≡◌, ℕ, List, ◌∷◌, None, ap}
use Rattle.std.specs.List.{slice_split}
use Rattle.omi_script.specs.HeadLines.{kind_and_chunk}
use Rattle.omi_script.specs.Numbers.{is_comma}
use Rattle.omi_script.proofs.PieceLemmas.{items_step}

-- three pieces are no pair
pub pair_more : (kind chunk rest : List ℕ) → kind_and_chunk (kind ∷ chunk ∷ slice_split is_comma rest) ≡ None
pair_more kind chunk rest = ap (λ pieces. kind_and_chunk (kind ∷ chunk ∷ pieces)) (items_step rest)
