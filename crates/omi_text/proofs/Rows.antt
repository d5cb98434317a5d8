-- A loop over rows: what is told so far, and what is told of the rows that are left, are the whole.
use Rattle.std.proofs.Common.{◌≡◌, ℕ, ◌+◌, List, ◌∷◌, ◌++◌, drop, Some, refl, sym, ap, ◌∙◌, append_assoc}
use Rattle.std.specs.Prelude.{slice_get}
use Rattle.std.specs.List.{flat_map}
use Rattle.std.proofs.lemmas.List.{drop_more}
use Rattle.std.proofs.lemmas.Option.{slice_get_within, get_or_from_slice_get}

-- the rows that are left begin with the one at this place
pub rows_left : {X : Type 0} (xs : List X) (i : ℕ) (x : X) → slice_get xs i ≡ Some x
    → drop i xs ≡ x ∷ drop (i + 1) xs
rows_left xs i x here =
    drop_more xs i x (slice_get_within xs i x here)
    ∙ ap (λ y. y ∷ drop (i + 1) xs) (get_or_from_slice_get xs i x x here)

-- one more row is told. `left` is the text of the rows that were left, `then` that of those that are left now.
pub rows_further : {X : Type 0} (left then : List X → List ℕ) (row old : List ℕ) (xs : List X) (i : ℕ) (x : X) (whole new : List ℕ)
    → ((ys : List X) → left (x ∷ ys) ≡ row ++ then ys)
    → slice_get xs i ≡ Some x
    → new ≡ old ++ row
    → old ++ left (drop i xs) ≡ whole
    → new ++ then (drop (i + 1) xs) ≡ whole
rows_further left then row old xs i x whole new splits here told so_far =
    ap (λ t. t ++ then (drop (i + 1) xs)) told
    ∙ (append_assoc old row (then (drop (i + 1) xs))
    ∙ (ap (λ t. old ++ t) (sym (splits (drop (i + 1) xs)))
    ∙ (ap (λ ys. old ++ left ys) (sym (rows_left xs i x here))
    ∙ so_far)))

-- the same where each row has the same text at each place
pub flat_map_further : {X : Type 0} (f : X → List ℕ) (old : List ℕ) (xs : List X) (i : ℕ) (x : X) (whole new : List ℕ)
    → slice_get xs i ≡ Some x
    → new ≡ old ++ f x
    → old ++ flat_map f (drop i xs) ≡ whole
    → new ++ flat_map f (drop (i + 1) xs) ≡ whole
flat_map_further f old xs i x whole new here told so_far =
    rows_further (flat_map f) (flat_map f) (f x) old xs i x whole new (λ ys. refl) here told so_far
