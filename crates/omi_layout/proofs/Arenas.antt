-- What is known of an arena that is in order: its numbers are small.
use Rattle.std.proofs.Common.{◌≡◌, ◌==◌, ℕ, zero, suc, ◌+◌, ◌*◌, ◌<◌, ◌≤◌, ◌⊎◌, inl, inr, ◌&&◌, Bool, true, false, nat_lt, List, refl, sym, subst, arith, eqb-true, mul-le-mul, leb-true, ltb-true}
use Rattle.std.proofs.lemmas.Bool.Decides.{nat_tests}
use Rattle.omi_layout.specs.declared.limits.TheConstants.{MOST_THREADS, FIELDS}
use Rattle.omi_layout.specs.Field.{IsField, IsKind, kind_of}
use Rattle.omi_layout.specs.Table.{size, place, thread_count, per_thread, makers, records, extent, offset, width}
use Rattle.omi_layout.specs.Valid.{IsValid, AllInside, is_inside, is_counted, is_placed, is_arena}
use Rattle.std.proofs.lemmas.Nat.{mul-add-lt}
use Rattle.omi_layout.specs.Place.{IsSlot, index_of}
use Rattle.omi_layout.specs.Judged.{AllBelow}

-- a fact of each of the four kinds
pub each_kind : (P : ℕ → Type 0) → P 1 → P 2 → P 3 → P 4 → (p : ℕ) → IsKind p → P p
each_kind P a b c d zero k = absurd (omega (arith, k.from))
each_kind P a b c d (suc zero) k = a
each_kind P a b c d (suc (suc zero)) k = b
each_kind P a b c d (suc (suc (suc zero))) k = c
each_kind P a b c d (suc (suc (suc (suc zero)))) k = d
each_kind P a b c d (suc (suc (suc (suc (suc n))))) k = absurd (omega (arith, k.to))

pub test_left : (a b : Bool) → a && b ≡ true → a ≡ true
test_left true b e = refl
test_left false b e = e

pub test_right : (a b : Bool) → a && b ≡ true → b ≡ true
test_right true b e = e
test_right false b e = absurd (cc)

field : (f : ℕ) → 1 ≤ f → f ≤ FIELDS → IsField f
field f a b = record { from = a; to = b }

small_by : (w : List ℕ) (f : ℕ) → is_inside w f ≡ true → size w (kind_of f) ≤ 4096
small_by w f e = leb-true _ _ (test_left _ _ e)

-- a record is small
pub small : (w : List ℕ) → AllInside w → (p : ℕ) → IsKind p → size w p ≤ 4096
small w inside =
    each_kind (λ p. size w p ≤ 4096)
    (small_by w 1 (inside 1 (field 1 (omega arith) (omega arith))))
    (small_by w 7 (inside 7 (field 7 (omega arith) (omega arith))))
    (small_by w 13 (inside 13 (field 13 (omega arith) (omega arith))))
    (small_by w 25 (inside 25 (field 25 (omega arith) (omega arith))))

threads_few : (w : List ℕ) → is_counted w 2 ≡ true → thread_count w ≤ 64
threads_few w e = omega (arith, leb-true (thread_count w) MOST_THREADS (test_right _ _ e))

regions_few : (w : List ℕ) → is_counted w 3 ≡ true → per_thread w 3 ≤ 64
regions_few w e = leb-true _ _ (test_right _ _ e)

times_few : (a b : ℕ) → a ≤ 64 → b ≤ 4096 → a * b ≤ 262144
times_few a b x y = mul-le-mul x y

-- an arena has few records
pub few : (w : List ℕ) (p : ℕ) → IsKind p → is_counted w p ≡ true → AllBelow w p → records w p ≤ 262144
few w p k e below =
    each_kind (λ q. is_counted w q ≡ true → AllBelow w q → records w q ≤ 262144)
    (λ _ _. omega arith)
    (λ c _. times_few (thread_count w) 1 (threads_few w c) (omega arith))
    (λ c b. times_few (thread_count w) (per_thread w 3) (threads_few w (test_left _ _ (b 2 (record { from = omega arith; to = omega arith }) (omega arith)))) (omega (arith, regions_few w c)))
    (λ c b. times_few (thread_count w) (per_thread w 4) (threads_few w (test_left _ _ (b 2 (record { from = omega arith; to = omega arith }) (omega arith)))) (leb-true _ _ (test_right _ _ c)))
    p k e below

-- an arena ends low
pub ends : (w : List ℕ) (p : ℕ) → is_placed w p ≡ true → place w p + 8 * extent w p ≤ 140737488355328
ends w p e = leb-true _ _ (test_right _ _ (test_right _ _ e))

pub counted : (w : List ℕ) (p : ℕ) → is_arena w p ≡ true → is_counted w p ≡ true
counted w p e = test_left _ _ e

pub placed : (w : List ℕ) (p : ℕ) → is_arena w p ≡ true → is_placed w p ≡ true
placed w p e = test_left _ _ (test_right (is_counted w p) _ e)

-- what holds of a number below another, and of that one, holds of a number below the next
pub next_below : (P : ℕ → Type 0) (f g : ℕ) → (g < f → P g) → P f → g < f + 1 → P g
next_below P f g below here order = go (nat_lt g f) refl
  where
    go : (b : Bool) → nat_lt g f ≡ b → P g
    go true e = below (ltb-true g f e)
    go false e = subst P (let same : f ≡ g = grind (arith, nat_tests) in same) here

-- the counts of a valid layout
pub threads_of_valid : (w : List ℕ) → IsValid w → thread_count w ≤ 64
threads_of_valid w v =
    threads_few w (counted w 2 (v.arenas 2 (record { from = omega arith; to = omega arith })))

pub regions_of_valid : (w : List ℕ) → IsValid w → per_thread w 3 ≤ 64
regions_of_valid w v =
    regions_few w (counted w 3 (v.arenas 3 (record { from = omega arith; to = omega arith })))

pub tasks_of_valid : (w : List ℕ) → IsValid w → per_thread w 4 ≤ 4096
tasks_of_valid w v =
    leb-true _ _ (test_right _ _ (counted w 4 (v.arenas 4 (record { from = omega arith; to = omega arith }))))

-- the records of an arena are those that its makers make
pub records_made : (w : List ℕ) (p : ℕ) → records w p ≡ makers w p * per_thread w p
records_made w p = go (p == 1) refl
  where
    go : (b : Bool) → p == 1 ≡ b → records w p ≡ makers w p * per_thread w p
    go true e = let one : p ≡ 1 = grind (arith, nat_tests) in rw one refl
    go false e = grind (arith, nat_tests)

-- all threads make threads, regions and tasks
pub all_make : (w : List ℕ) (p : ℕ) → 2 ≤ p → makers w p ≡ thread_count w
all_make w p h = grind (arith, nat_tests)

-- a slot's number in its arena is below the records of the arena
pub index_within : (w : List ℕ) (p creator slot : ℕ) → IsSlot w p creator slot
    → index_of w p creator slot < records w p
index_within w p creator slot s =
    let low = mul-add-lt creator (per_thread w p) slot (makers w p) s.made_by s.within in
    omega (arith, low, records_made w p)

-- and small
pub index_few : (w : List ℕ) (p creator slot : ℕ) → 2 ≤ p → thread_count w ≤ 64 → per_thread w p ≤ 4096
    → IsSlot w p creator slot → creator * per_thread w p + slot < 266240
index_few w p creator slot two t n s =
    let low = times_few creator (per_thread w p) (omega (arith, s.made_by, all_make w p two, t)) n in
    omega (arith, low, s.within, n)

pub few_of_valid : (w : List ℕ) → IsValid w → (p : ℕ) → IsKind p → records w p ≤ 262144
few_of_valid w v p k = few w p k (counted w p (v.arenas p k)) (λ q is _. v.arenas q is)

-- a field ends inside its record
pub ends_inside : (w : List ℕ) (f : ℕ) → is_inside w f ≡ true → offset w f + width w f ≤ size w (kind_of f)
ends_inside w f e = leb-true _ _ (test_right _ _ e)

positive_by : (w : List ℕ) (f : ℕ) → width w f ≡ 1 → is_inside w f ≡ true → 0 < size w (kind_of f)
positive_by w f one e = omega (arith, ends_inside w f e, one)

-- a record has a word
pub positive : (w : List ℕ) → AllInside w → (p : ℕ) → IsKind p → 0 < size w p
positive w inside =
    each_kind (λ p. 0 < size w p)
    (positive_by w 1 refl (inside 1 (field 1 (omega arith) (omega arith))))
    (positive_by w 7 refl (inside 7 (field 7 (omega arith) (omega arith))))
    (positive_by w 13 refl (inside 13 (field 13 (omega arith) (omega arith))))
    (positive_by w 25 refl (inside 25 (field 25 (omega arith) (omega arith))))

pub some_regions : (w : List ℕ) → IsValid w → 0 < per_thread w 3
some_regions w v =
    let low : 1 ≤ per_thread w 3 = leb-true _ _ (test_left _ _ (counted w 3 (v.arenas 3 (record { from = omega arith; to = omega arith })))) in omega (arith, low)

pub some_tasks : (w : List ℕ) → IsValid w → 0 < per_thread w 4
some_tasks w v =
    let low : 1 ≤ per_thread w 4 = leb-true _ _ (test_left _ _ (counted w 4 (v.arenas 4 (record { from = omega arith; to = omega arith })))) in omega (arith, low)

three_or_four : (p : ℕ) → 3 ≤ p → p ≤ 4 → (p ≡ 3) ⊎ (p ≡ 4)
three_or_four p from to = go (p == 3) refl
  where
    go : (b : Bool) → p == 3 ≡ b → (p ≡ 3) ⊎ (p ≡ 4)
    go true e = inl (eqb-true p 3 e)
    go false e = inr (grind (arith, nat_tests))

-- a thread has some records of regions and of tasks, and not more than 16 bits count
pub some_slots : (w : List ℕ) (p : ℕ) → IsValid w → 3 ≤ p → p ≤ 4 → 0 < per_thread w p
some_slots w p v from to = elim (three_or_four p from to) [
  | inl three ↦ subst (λ k. 0 < per_thread w k) (sym three) (some_regions w v)
  | inr four ↦ subst (λ k. 0 < per_thread w k) (sym four) (some_tasks w v)
]

pub few_slots : (w : List ℕ) (p : ℕ) → IsValid w → 3 ≤ p → p ≤ 4 → per_thread w p ≤ 4096
few_slots w p v from to = elim (three_or_four p from to) [
  | inl three ↦ subst (λ k. per_thread w k ≤ 4096) (sym three) (let few = regions_of_valid w v in omega (arith, few))
  | inr four ↦ subst (λ k. per_thread w k ≤ 4096) (sym four) (tasks_of_valid w v)
]

pub some_threads : (w : List ℕ) → IsValid w → 0 < thread_count w
some_threads w v =
    let low : 1 ≤ thread_count w = leb-true _ _ (test_left _ _ (counted w 2 (v.arenas 2 (record { from = omega arith; to = omega arith })))) in omega (arith, low)
