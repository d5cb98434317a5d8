-- Numbers joined by commas are the first, and each other behind a comma.
use Rattle.std.proofs.Common.{◌≡◌, ℕ, List, [], ◌∷◌, ◌++◌, drop, ap, arith}
use Rattle.std.specs.Prelude.{slice_get, Some}
use Rattle.std.specs.Fmt.{decimal}
use Rattle.std.proofs.lemmas.Grind.{common_steps}
use Rattle.omi_text.specs.Numbers.{decimals, after_commas}
use Rattle.omi_text.proofs.Rows.{rows_left}

decimals-cons : (n : ℕ) (ns : List ℕ) → decimals (n ∷ ns) ≡ decimal n ++ after_commas ns
unfolding decimals
decimals-cons n [] = grind (arith, common_steps)
decimals-cons n (m ∷ ns) = ap (λ xs. decimal n ++ 44 ∷ xs) (decimals-cons m ns)

pub decimals_from_first : (ns : List ℕ) (n : ℕ) → slice_get ns 0 ≡ Some n
    → decimals ns ≡ decimal n ++ after_commas (drop 1 ns)
decimals_from_first ns n first = rw (rows_left ns 0 n first) (decimals-cons n (drop 1 ns))
