-- Seats at a table. Each stands for some threads, and knows a part of each of them; a thread is known to one seat at most.
use Rattle.std.specs.Prelude.{◌≡◌, ℕ, zero, suc, List, [], ◌∷◌, Some, slice_get}
use mathlib.Core.Option.{some}
use lib.ListN.{get_elem?}
use Rattle.atomic_table.specs.Table.{Me}

-- a seat: what it knows, and no slot
abbrev pub Seated : Type 0 → Type 0
Seated X = Me (Unit {0}) (List X)

-- what the seats know: each part is one of a thread of the seat that knows it, and is as it should be
pub record AreSeated {X : Type 0} (thread : X → ℕ) (Is : X → Type 0) (views : List (List X))
    : Type 0 where
  pub seat : ℕ → ℕ
  pub parts : (id at : ℕ) (known : List X) (x : X) → get_elem? views id ≡ some known
      → slice_get known at ≡ Some x → (seat (thread x) ≡ id) × Is x

-- the parts of the threads below a number, the last one first
abbrev pub all_below : {X : Type 0} → (ℕ → X) → ℕ → List X
all_below part zero = []
all_below part (suc n) = part n ∷ all_below part n

-- a seat that stands for several threads gives away the first of them
abbrev pub without_first : {X : Type 0} → List X → List X
without_first [] = []
without_first (x ∷ xs) = xs

abbrev pub first_alone : {X : Type 0} → List X → List X
first_alone [] = []
first_alone (x ∷ xs) = x ∷ []
