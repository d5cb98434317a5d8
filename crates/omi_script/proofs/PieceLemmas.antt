-- The first piece of a list that is cut at each separator, and what is left.
use Rattle.std.proofs.Common.{◌≡◌, ℕ, ◌+◌, ◌<◌, ◌≤◌, Bool, true, false, cond, not, ltb, List, [], ◌∷◌, length, Some, None, refl, sym, ap, ◌∙◌, ⊎_elim, unwrap_or, arith, filter, if◌then◌else◌, ◌==◌}
use Rattle.std.proofs.lemmas.Grind.{common_steps}
use Rattle.std.proofs.lemmas.Bool.{cases_lt, lt-ltb, le-ltb}
use Rattle.std.proofs.lemmas.Bool.Decides.{nat_tests}
use Rattle.std.proofs.lemmas.List.{drop_all, take_all}
use Rattle.std.proofs.lemmas.List.Sums.{prefix_len-le-length, fails_before_first}
use Rattle.std.proofs.lemmas.List.Splits.{slice_split_first, slice_split_none}
use Rattle.std.specs.List.{position, position_or_len, before_first, after_first, slice_split}
use Rattle.omi_script.specs.Lines.{is_blank, words}
use Rattle.omi_script.specs.Numbers.{is_comma}

position_or_len-le : (p : ℕ → Bool) (xs : List ℕ) → position_or_len p xs ≤ length xs
position_or_len-le p xs = prefix_len-le-length (λ x. not (p x)) xs

place_by : (n l : ℕ) → n ≤ l → unwrap_or (cond (ltb n l) (Some n) None) l ≡ n
place_by n l h = grind (arith, nat_tests, common_steps)

-- the first place that passes, or the length
pub first_place : (p : ℕ → Bool) (xs : List ℕ)
    → (unwrap_or (position p xs) (length xs) ≡ position_or_len p xs) × (position_or_len p xs ≤ length xs)
first_place p xs =
    (place_by (position_or_len p xs) (length xs) (position_or_len-le p xs), position_or_len-le p xs)

-- a list without a separator is one piece, and nothing is left
pub cut_last : (p : ℕ → Bool) (xs : List ℕ) → length xs ≤ position_or_len p xs
    → (slice_split p xs ≡ xs ∷ []) × (before_first p xs ≡ xs) × (after_first p xs ≡ [])
cut_last p xs h = (
  slice_split_none p xs (λ k d l. fails_before_first p xs k d (omega arith)),
  take_all (position_or_len p xs) xs h,
  drop_all (position_or_len p xs + 1) xs (omega arith),
)

-- the first piece, and the pieces of what is left
pub cut_first : (p : ℕ → Bool) (xs : List ℕ) → position_or_len p xs < length xs
    → slice_split p xs ≡ before_first p xs ∷ slice_split p (after_first p xs)
cut_first p xs h = slice_split_first p xs 0 h

abbrev not_empty : List (List ℕ) → List (List ℕ)
not_empty = filter (λ piece. not (length piece == 0))

flip : {A : Type 0} (b : Bool) (x y : A) → cond (not b) x y ≡ cond b y x
flip true x y = refl
flip false x y = refl

abbrev word_onto : List ℕ → List ℕ → List (List ℕ)
word_onto w rest = if length w == 0 then words rest else w ∷ words rest

-- the words of a line, by its first piece
pub words_step : (line : List ℕ)
    → words line ≡ (if length (before_first is_blank line) == 0 then words (after_first is_blank line) else before_first is_blank line ∷ words (after_first is_blank line))
words_step line =
    ⊎_elim
    (λ h. ap not_empty (cut_first is_blank line h) ∙ flip (length (before_first is_blank line) == 0) _ _)
    (λ h. let e = cut_last is_blank line h in
    ap not_empty e.0 ∙ flip (length line == 0) _ _ ∙ sym (ap (λ w. word_onto w (after_first is_blank line)) e.1 ∙ ap (λ a. word_onto line a) e.2))
    (cases_lt (position_or_len is_blank line) (length line))

-- the pieces between commas, by the first
pub items_step : (word : List ℕ)
    → slice_split is_comma word ≡ before_first is_comma word ∷ (if ltb (position_or_len is_comma word) (length word) then slice_split is_comma (after_first is_comma word) else [])
items_step word =
    ⊎_elim
    (λ h. cut_first is_comma word h ∙ ap (λ b. before_first is_comma word ∷ (if b then slice_split is_comma (after_first is_comma word) else [])) (sym (lt-ltb _ _ h)))
    (λ h. let e = cut_last is_comma word h in
    e.0 ∙ sym (ap (λ w. w ∷ []) e.1) ∙ ap (λ b. before_first is_comma word ∷ (if b then slice_split is_comma (after_first is_comma word) else [])) (sym (le-ltb _ _ h)))
    (cases_lt (position_or_len is_comma word) (length word))
