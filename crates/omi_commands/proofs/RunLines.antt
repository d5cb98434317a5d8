-- The lines of elements from one on, each by its number.
use Rattle.std.proofs.Common.{◌≡◌, ◌+◌, ◌++◌, ℕ, suc, List, ◌∷◌, drop, sym, ap, ◌∙◌, arith}
use Rattle.std.specs.Prelude.{Some, slice_get}
use Rattle.std.proofs.Math.Seq.{drop-cons}
use Rattle.std.proofs.lemmas.List.{append_assoc}
use Rattle.std.proofs.lemmas.Option.{get_or_from_slice_get, slice_get_within}

module _ {X : Type 0} (line : ℕ → X → List ℕ) (lines : ℕ → List X → List ℕ)
    (next : (i : ℕ) (x : X) (xs : List X) → lines i (x ∷ xs) ≡ line i x ++ lines (i + 1) xs) where
  lines_from : (xs : List X) (i : ℕ) (x : X) → slice_get xs i ≡ Some x
      → lines i (drop i xs) ≡ line i x ++ lines (i + 1) (drop (i + 1) xs)
  lines_from xs i x is =
      let one : suc i ≡ i + 1 = omega arith in
      ap (lines i) (drop-cons xs i x (slice_get_within xs i x is))
      ∙ next i _ (drop (suc i) xs)
      ∙ ap (λ (y : X). line i y ++ lines (i + 1) (drop (suc i) xs)) (get_or_from_slice_get xs i x x is)
      ∙ ap (λ j. line i x ++ lines (i + 1) (drop j xs)) one

  -- the line of an element is added
  pub one_line_more : (text now all : List ℕ) (xs : List X) (i : ℕ) (x : X) → slice_get xs i ≡ Some x
      → now ≡ text ++ line i x → text ++ lines i (drop i xs) ≡ all
      → now ++ lines (i + 1) (drop (i + 1) xs) ≡ all
  one_line_more text now all xs i x is added so_far =
      ap (λ t. t ++ lines (i + 1) (drop (i + 1) xs)) added
      ∙ append_assoc text (line i x) (lines (i + 1) (drop (i + 1) xs))
      ∙ ap (λ t. text ++ t) (sym (lines_from xs i x is))
      ∙ so_far
