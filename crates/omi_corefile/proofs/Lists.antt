-- One more element, as a loop over the places of a list adds it.
use Rattle.std.proofs.Common.{◌≡◌, ℕ, ◌+◌, ◌-◌, ◌^◌, ◌<◌, ◌≤◌, ltb, List, [], ◌∷◌, ◌++◌, length, take, drop, Some, refl, sym, ap, ◌∙◌, arith}
use Rattle.std.specs.Prelude.{IsTrue, get_or, slice_get, slice_index}
use Rattle.std.specs.List.{flat_map}
use Rattle.std.proofs.lemmas.Bool.{lt-ltb}
use Rattle.std.proofs.lemmas.List.{take_more, flat_map_more, get_or-drop, length-drop}
use Rattle.std.proofs.lemmas.List.Folds.{list_all-append}
use Rattle.std.proofs.lemmas.List.Sums.{sum_by_push, sum_by-take-le}
use Rattle.std.proofs.lemmas.Option.{slice_get_within, get_or_from_slice_get}
use Rattle.omi_corefile.specs.declared.segment.Segment.{Segment}
use Rattle.omi_corefile.specs.Limits.{are_words, total_words}

-- the front of a list, one place further
pub take_further : {X : Type 0} (xs : List X) (i : ℕ) (x : X) → slice_get xs i ≡ Some x
    → take (i + 1) xs ≡ take i xs ++ x ∷ []
take_further xs i x h =
    take_more xs i x (slice_get_within xs i x h)
    ∙ ap (λ y. take i xs ++ y ∷ []) (get_or_from_slice_get xs i x x h)

-- the fields of a front, one place further
pub flat_map_further : {X : Type 0} (f : X → List ℕ) (out : List ℕ) (xs : List X) (i : ℕ) (x : X)
    → slice_get xs i ≡ Some x → (out ++ flat_map f (take i xs)) ++ f x ≡ out ++ flat_map f (take (i + 1) xs)
flat_map_further f out xs i x h =
    flat_map_more f out (take i xs) x ∙ ap (λ ys. out ++ flat_map f ys) (sym (take_further xs i x h))

-- the fields of a part of a list that begins at a place, one place further
pub flat_map_part_further : (f : ℕ → List ℕ) (out xs : List ℕ) (from i : ℕ) → from ≤ i → i < length xs
    → (out ++ flat_map f (take (i - from) (drop from xs))) ++ f (slice_index xs i)
    ≡ out ++ flat_map f (take (i + 1 - from) (drop from xs))
flat_map_part_further f out xs from i after within =
    let place : from + (i - from) ≡ i = omega (arith, after) in
    let there : i - from < length (drop from xs) = omega (arith, length-drop from xs, after, within) in
    let next : i + 1 - from ≡ (i - from) + 1 = omega (arith, after) in
    flat_map_more f out (take (i - from) (drop from xs)) (slice_index xs i)
    ∙ ap (λ (ys : List ℕ). out ++ flat_map f ys)
    (sym
    (ap (λ (n : ℕ). take n (drop from xs)) next ∙ take_more (drop from xs) (i - from) 0 there
    ∙ ap (λ (y : ℕ). take (i - from) (drop from xs) ++ y ∷ [])
    (get_or-drop from xs (i - from) 0 ∙ ap (λ (n : ℕ). get_or xs n 0) place)))

-- one more word
pub are_words-push : (xs : List ℕ) (x : ℕ) → IsTrue (are_words xs) → x < 2 ^ 64
    → IsTrue (are_words (xs ++ x ∷ []))
are_words-push xs x all fits =
    rw (list_all-append (λ y. ltb y (2 ^ 64)) xs (x ∷ []), all, lt-ltb x (2 ^ 64) fits) refl

-- the words of the segments before a place, and of the one there
pub total_words_further : (ss : List Segment) (i : ℕ) (s : Segment) → slice_get ss i ≡ Some s
    → total_words (take (i + 1) ss) ≡ total_words (take i ss) + length s.words
total_words_further ss i s h =
    ap total_words (take_further ss i s h) ∙ sum_by_push (λ (t : Segment). length t.words) (take i ss) s

pub total_words_within : (ss : List Segment) (i : ℕ) (s : Segment) → slice_get ss i ≡ Some s
    → total_words (take i ss) + length s.words ≤ total_words ss
total_words_within ss i s h =
    omega (arith, total_words_further ss i s h, sum_by-take-le (λ (t : Segment). length t.words) ss (i + 1))
