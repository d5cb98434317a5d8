-- The parts of a word between its commas.
use Rattle.std.proofs.Common.{◌≡◌, ◌∙◌, ◌<◌, ◌+◌, ◌-◌, ◌==◌, ◌&&◌, ℕ, suc, Bool, true, false, refl, sym, ap, List, [], ◌∷◌, Option, Some, None, Bor, length, arith, lit<}
use Rattle.std.specs.Prelude.{is_some, nat_le}
use Rattle.std.specs.List.{after_first, onto_first, position_or_len, slice_split}
use Rattle.std.proofs.Math.Dec.{leb-suc-suc}
use Rattle.std.proofs.lemmas.List.Splits.{length-slice_split, slice_split-cons_no, slice_split_first}
use Rattle.std.proofs.lemmas.Bool.{lt-leb}
use Rattle.std.proofs.lemmas.Str.Pattern.{IsSplitOnceResult, split_once_first}
use Rattle.omi_line.specs.Number.{number_between}
use Rattle.omi_usage.specs.Form.{Numbers, are_numbers, fits, is_comma}

one_part : (word : List ℕ) → position_or_len is_comma word ≡ length word → slice_split is_comma word ≡ word ∷ []
one_part [] all = refl
one_part (byte ∷ word) all = go (byte == 44) refl (one_part word)
  where
    go : (b : Bool) → (byte == 44) ≡ b
        → (position_or_len is_comma word ≡ length word → slice_split is_comma word ≡ word ∷ [])
        → slice_split is_comma (byte ∷ word) ≡ (byte ∷ word) ∷ []
    go true is next = let none : 0 ≡ suc (length word) = rw is at all in absurd (omega (arith, none))
    go false is next =
        let same : 1 + position_or_len is_comma word ≡ suc (length word) = rw is at all in
        slice_split-cons_no is_comma byte word is
        ∙ ap (onto_first byte) (next (omega (arith, same)))

-- no word is no number
pub no_room : (many most : ℕ) (word : List ℕ) → many ≡ 0 → false ≡ fits (Numbers many most) word
no_room many most word none =
    let parts = slice_split is_comma word in
    let more : many < length parts = omega (arith, none, length-slice_split is_comma word) in
    sym (ap (λ (b : Bool). b && are_numbers most parts) (lt-leb (length parts) many more))

one_more : (n a b : Bool) → (a && (n && b)) ≡ (n && (a && b))
one_more true true b = refl
one_more true false b = refl
one_more false true b = refl
one_more false false b = refl

and_true : (a : Bool) → (a && true) ≡ a
and_true true = refl
and_true false = refl

module _ (word : List ℕ) (r : Option (Bor (List ℕ) × Bor (List ℕ))) (split : IsSplitOnceResult 44 word r)
    (many most : ℕ) (some : 0 < many) where
  -- a number, and more behind the first comma
  pub more_parts : (x : Bor (List ℕ) × Bor (List ℕ)) → r ≡ Some x
      → (is_some (number_between x.0.now 0 most) && fits (Numbers (many - 1) most) x.1.now) ≡ fits (Numbers many most) word
  more_parts x is =
      let (inside, front, back) = rw is at (split_once_first 44 word r split (lit< tt)) in
      let rest = slice_split is_comma x.1.now in
      let parts : slice_split is_comma word ≡ x.0.now ∷ rest =
      slice_split_first is_comma word 0 inside
      ∙ ap (λ (b : List ℕ). b ∷ slice_split is_comma (after_first is_comma word)) (sym front)
      ∙ ap (λ (b : List ℕ). x.0.now ∷ slice_split is_comma b) (sym back) in
      let less : nat_le (suc (length rest)) many ≡ nat_le (length rest) (many - 1) =
      ap (nat_le (suc (length rest))) (let m : many ≡ suc (many - 1) = omega (arith, some) in m)
      ∙ leb-suc-suc (length rest) (many - 1) in
      let whole : fits (Numbers many most) word ≡ (nat_le (suc (length rest)) many && (is_some (number_between x.0.now 0 most) && are_numbers most rest)) =
      ap (λ (ps : List (List ℕ)). nat_le (length ps) many && are_numbers most ps) parts in
      sym (whole ∙ ap (λ (b : Bool). b && (is_some (number_between x.0.now 0 most) && are_numbers most rest)) less
      ∙ one_more (is_some (number_between x.0.now 0 most)) (nat_le (length rest) (many - 1)) (are_numbers most rest))

  pub more_yes : (x : Bor (List ℕ) × Bor (List ℕ)) → r ≡ Some x → is_some (number_between x.0.now 0 most) ≡ true
      → fits (Numbers (many - 1) most) x.1.now ≡ fits (Numbers many most) word
  more_yes x is first =
      sym (ap (λ (b : Bool). b && fits (Numbers (many - 1) most) x.1.now) first) ∙ more_parts x is

  pub more_no : (x : Bor (List ℕ) × Bor (List ℕ)) → r ≡ Some x → is_some (number_between x.0.now 0 most) ≡ false
      → false ≡ fits (Numbers many most) word
  more_no x is first =
      sym (ap (λ (b : Bool). b && fits (Numbers (many - 1) most) x.1.now) first) ∙ more_parts x is

  -- one number
  pub last_part : r ≡ None → is_some (number_between word 0 most) ≡ fits (Numbers many most) word
  last_part is =
      let all = rw is at (split_once_first 44 word r split (lit< tt)) in
      let less : nat_le 1 many ≡ true = grind (arith, some) in
      sym (ap (λ (ps : List (List ℕ)). nat_le (length ps) many && are_numbers most ps) (one_part word all)
      ∙ ap (λ (b : Bool). b && (is_some (number_between word 0 most) && true)) less
      ∙ and_true (is_some (number_between word 0 most)))
