-- The front of a list with one element more.
use Rattle.std.proofs.Common.{◌≡◌, ℕ, ◌+◌, List, [], ◌∷◌, ◌++◌, take, map, Option, Some, None, ap, ◌∙◌}
use Rattle.std.specs.Prelude.{slice_get}
use Rattle.std.specs.List.{filter_map, cons_option}
use Rattle.std.proofs.lemmas.List.{take_more, map-append, append-nil}
use Rattle.std.proofs.lemmas.List.Elements.{filter_map-append}
use Rattle.std.proofs.lemmas.Option.{slice_get_within, get_or_from_slice_get}

pub one_more : {A : Type 0} (xs : List A) (n : ℕ) (x : A) → slice_get xs n ≡ Some x
    → take (n + 1) xs ≡ take n xs ++ x ∷ []
one_more xs n x is =
    take_more xs n x (slice_get_within xs n x is)
    ∙ ap (λ y. take n xs ++ y ∷ []) (get_or_from_slice_get xs n x x is)

-- one element more, mapped
pub map_more : {A B : Type 0} (f : A → B) (xs : List A) (n : ℕ) (x : A) → slice_get xs n ≡ Some x
    → map f (take (n + 1) xs) ≡ map f (take n xs) ++ f x ∷ []
map_more f xs n x is = ap (map f) (one_more xs n x is) ∙ map-append f (take n xs) (x ∷ [])

-- one element more, of which something is made or nothing
pub made_more : {A B : Type 0} (f : A → Option B) (xs : List A) (n : ℕ) (x : A) (y : B)
    → slice_get xs n ≡ Some x → f x ≡ Some y
    → filter_map f (take (n + 1) xs) ≡ filter_map f (take n xs) ++ y ∷ []
made_more f xs n x y is made =
    ap (filter_map f) (one_more xs n x is)
    ∙ filter_map-append f (take n xs) (x ∷ [])
    ∙ ap (λ o. filter_map f (take n xs) ++ cons_option o []) made

pub none_more : {A B : Type 0} (f : A → Option B) (xs : List A) (n : ℕ) (x : A) → slice_get xs n ≡ Some x
    → f x ≡ None → filter_map f (take (n + 1) xs) ≡ filter_map f (take n xs)
none_more f xs n x is none =
    ap (filter_map f) (one_more xs n x is)
    ∙ filter_map-append f (take n xs) (x ∷ [])
    ∙ ap (λ o. filter_map f (take n xs) ++ cons_option o []) none
    ∙ append-nil (filter_map f (take n xs))
