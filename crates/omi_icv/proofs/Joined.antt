-- The numbers of a value joined by commas are the first, and each other behind a comma.
use Rattle.std.proofs.Common.{◌≡◌, ℕ, ◌<◌, List, [], ◌∷◌, ◌++◌, length, get_or, drop, ap, arith}
use Rattle.std.proofs.lemmas.Grind.{common_steps}
use Rattle.omi_icv.specs.declared.variable.Spelling.{Spelling}
use Rattle.omi_icv.specs.Spellings.{number_text, value_text, after_commas}

joined-cons : (spelling : Spelling) (n : ℕ) (ns : List ℕ)
    → value_text spelling (n ∷ ns) ≡ number_text spelling n ++ after_commas spelling ns
unfolding value_text
joined-cons spelling n [] = grind (arith, common_steps)
joined-cons spelling n (m ∷ ns) = ap (λ xs. number_text spelling n ++ 44 ∷ xs) (joined-cons spelling m ns)

pub joined_from_first : (spelling : Spelling) (ns : List ℕ) → 0 < length ns
    → value_text spelling ns ≡ number_text spelling (get_or ns 0 0) ++ after_commas spelling (drop 1 ns)
joined_from_first spelling [] some = absurd (omega (arith, some))
joined_from_first spelling (n ∷ ns) some = joined-cons spelling n ns

pub joined_none : (spelling : Spelling) (ns : List ℕ) → length ns ≡ 0 → value_text spelling ns ≡ []
unfolding value_text
joined_none spelling [] none = grind arith
joined_none spelling (n ∷ ns) none = absurd (omega (arith, none))
