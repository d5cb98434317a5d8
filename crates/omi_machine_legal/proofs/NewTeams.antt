-- What holds of a new team member by member holds of the whole team, and back.
use Rattle.std.proofs.Common.{◌<◌, ℕ, zero, suc, List, [], ◌∷◌, length, slice_get, Option, Some, sym, ap, subst, ◌∙◌, arith}
use Rattle.std.specs.Prelude.{IfSome}
use Rattle.std.specs.List.{All, Contains}
use Rattle.std.proofs.lemmas.Option.{slice_get-get_or, get_or_from_slice_get}
use Rattle.omi_machine_legal.specs.Decided.{IsNewAt}
use Rattle.omi_model.specs.Fresh.{AreDistinct}

-- a fact of the element at each place is one of each element
pub all_by_place : {A : Type 0} (P : A → Type 0) (xs : List A)
    → ((k : ℕ) → k < length xs → IfSome (slice_get xs k) P) → All P xs
all_by_place {A = A} P xs each k d within =
    subst (λ (o : Option A). IfSome o P) (slice_get-get_or xs k d within) (each k within)

pub by_place_all : {A : Type 0} (P : A → Type 0) (xs : List A) → All P xs → (k : ℕ) → k < length xs
    → IfSome (slice_get xs k) P
by_place_all P [] all k within = absurd (omega (arith, within))
by_place_all {A = A} P (x ∷ xs) all k within =
    subst (λ (o : Option A). IfSome o P) (sym (slice_get-get_or (x ∷ xs) k x within)) (all k x within)

-- no element stands twice where each stands at no earlier place
pub distinct_from_new : {A : Type 0} (xs : List A) → ((k : ℕ) → k < length xs → IsNewAt xs k) → AreDistinct xs
distinct_from_new [] new = tt
distinct_from_new {A = A} (x ∷ xs) new = (once, distinct_from_new xs rest)
  where
    once : Contains xs x → ⊥
    once (k, within, is) =
        new (suc k) (omega (arith, within)) 0 (omega arith)
        (sym (slice_get-get_or xs k x within ∙ ap (λ (y : A). Some y) is))

    rest : (k : ℕ) → k < length xs → IsNewAt xs k
    rest k within j before = new (suc k) (omega (arith, within)) (suc j) (omega (arith, before))

pub new_from_distinct : {A : Type 0} (xs : List A) → AreDistinct xs → (k : ℕ) → k < length xs → IsNewAt xs k
new_from_distinct [] distinct k within j before same = omega (arith, within)
new_from_distinct (x ∷ xs) distinct zero within j before same = omega (arith, before)
new_from_distinct (x ∷ xs) distinct (suc k) within zero before same =
    distinct.0 (k, omega (arith, within), get_or_from_slice_get xs k x x (sym same))
new_from_distinct (x ∷ xs) distinct (suc k) within (suc j) before same =
    new_from_distinct xs distinct.1 k (omega (arith, within)) j (omega (arith, before)) same
