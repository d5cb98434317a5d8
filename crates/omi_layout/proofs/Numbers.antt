-- Each field by name has the number of a field, and each such number is that of a field by name.
use Rattle.std.proofs.Common.{◌≡◌, ◌==◌, ◌+◌, ◌-◌, ◌<◌, ◌&&◌, ℕ, zero, suc, Bool, true, List, [], ◌∷◌, length, refl, arith, eqb-true}
use Rattle.omi_layout.specs.declared.field.Field.{Field}
use Rattle.omi_layout.specs.declared.field.Field.TheVariants.{RuntimeVersion}
use Rattle.omi_layout.specs.declared.limits.TheConstants.{FIELDS}
use Rattle.omi_layout.specs.Field.{IsField}
use Rattle.omi_layout.specs.Named.{fields, number}
use Rattle.omi_layout.proofs.Arenas.{test_left, test_right}

-- the second clause stands for each other field
pub numbered_field : (f : Field) → IsField (number f)
numbered_field RuntimeVersion = record { from = omega arith; to = omega arith }
numbered_field f = record { from = omega arith; to = omega arith }

-- the fields of a list have the numbers from n on
abbrev are_numbered : ℕ → List (Field × List ℕ) → Bool
are_numbered n [] = true
are_numbered n (f ∷ fs) = (number f.0 == n) && are_numbered (n + 1) fs

numbered_at : (n : ℕ) (fs : List (Field × List ℕ)) → are_numbered n fs ≡ true → (j : ℕ) → j < length fs
    → (f : Field) × (number f ≡ n + j)
numbered_at n [] e j within = absurd (omega (arith, within))
numbered_at n (f ∷ fs) e zero within =
    let same = eqb-true (number f.0) n (test_left (number f.0 == n) (are_numbered (n + 1) fs) e) in
    (f.0, omega (arith, same))
numbered_at n (f ∷ fs) e (suc j) within =
    let others = test_right (number f.0 == n) (are_numbered (n + 1) fs) e in
    let there = numbered_at (n + 1) fs others j (omega (arith, within)) in
    let same = there.1 in
    (there.0, omega (arith, same))

pub field_at : (n : ℕ) → IsField n → (f : Field) × (number f ≡ n)
field_at n is =
    let from = is.from in
    let to = is.to in
    let all : length fields ≡ FIELDS = refl in
    let there = numbered_at 1 fields refl (n - 1) (omega (arith, from, to, all)) in
    let same = there.1 in
    (there.0, omega (arith, same, from))
