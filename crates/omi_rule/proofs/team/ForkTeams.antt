-- The team of a fork: its members are new and apart, and no task waits for the threads that joined.
use Rattle.std.proofs.Common.{◌≡◌, ◌+◌, ◌==◌, ◌||◌, ◌<◌, ◌≤◌, ℕ, zero, suc, Bool, true, false, List, [], ◌∷◌, length, drop, map, replicate, slice_get, slice_index, Some, refl, sym, ap, subst, arith, eq-eqb}
use Rattle.std.specs.List.{All, Contains}
use Rattle.std.proofs.lemmas.List.Elements.{All-cons, All-head, All-nil, All-tail}
use Rattle.omi_model.specs.declared.id.Id.{Id}
use Rattle.omi_model.specs.declared.id.Tid.{Tid}
use Rattle.omi_model.specs.declared.task.Task.{Task}
use Rattle.omi_model.specs.Columns.{tasks_of}
use Rattle.omi_model.specs.Fresh.{AreDistinct}
use Rattle.omi_model.specs.Put.{Slots, made}
use Rattle.omi_model.specs.Teams.{got_threads, master_of, with_members}
use Rattle.omi_model.proofs.Slots.{Each, each_made}
use Rattle.omi_rule_words.specs.Counts.{has_slot}
use Rattle.omi_rule_words.specs.Words.{AreApart}
use Rattle.omi_step_words.specs.Members.{member_of}

-- ---- members

pub each_is : (P : Tid × ℕ → Type 0) (xs : List (Tid × ℕ)) → ((j : ℕ) → j < length xs → P (member_of xs j))
    → All P xs
each_is P [] each = All-nil P
each_is P (x ∷ xs) each =
    All-cons P x xs (each 0 (omega arith)) (each_is P xs (λ j within. each (suc j) (omega (arith, within))))

pub there_at : (xs : List (Tid × ℕ)) (j : ℕ) → j < length xs → slice_get xs j ≡ Some (member_of xs j)
there_at [] j within = absurd (omega (arith, within))
there_at (x ∷ xs) zero within = refl
there_at (x ∷ xs) (suc j) within = there_at xs j (omega (arith, within))

pub first_master : (xs : List (Tid × ℕ)) → 1 ≤ length xs → master_of xs ≡ Some (member_of xs 0).0
first_master [] some = absurd (omega (arith, some))
first_master (x ∷ xs) some = refl

pub first_thread : (xs : List (Tid × ℕ)) (i : ℕ) (gs : List ℕ) → map (λ m. m.1) xs ≡ i ∷ gs
    → (member_of xs 0).1 ≡ i
first_thread [] i gs is = absurd (cc is)
first_thread (x ∷ xs) i gs is = cc is

pub none_arrived : (n : ℕ) → slice_index (replicate n 0) 0 ≡ 0
none_arrived zero = refl
none_arrived (suc n) = refl

-- ---- names

right_of : (a b : Bool) → a || b ≡ false → (a ≡ false) × (b ≡ false)
right_of false b e = (refl, e)
right_of true b e = absurd (cc e)

not_named : (xs : List (Tid × ℕ)) (k : Tid) → has_slot k.0.slot (tasks_of xs) ≡ false
    → Contains (map (λ m. m.0) xs) k → ⊥
not_named [] k none (j, within, e) = omega (arith, within)
not_named (x ∷ xs) k none (zero, within, e) =
    cc
    (sym (eq-eqb x.0.0.slot k.0.slot (ap (λ (t : Tid). t.0.slot) e)), (right_of (x.0.0.slot == k.0.slot) (has_slot k.0.slot (tasks_of xs)) none).0)
not_named (x ∷ xs) k none (suc j, within, e) =
    not_named xs k (right_of (x.0.0.slot == k.0.slot) (has_slot k.0.slot (tasks_of xs)) none).1
    (j, omega (arith, within), e)

pub apart_distinct : (xs : List (Tid × ℕ)) → AreApart (tasks_of xs) → AreDistinct (map (λ m. m.0) xs)
apart_distinct [] apart = tt
apart_distinct (x ∷ xs) (first, rest) = (not_named xs x.0 first, apart_distinct xs rest)

-- ---- the tasks of a team are made

pub members_each : (P : Id → Task → Type 0) (task : ℕ → ℕ → Task) (number : ℕ) (team : List (Tid × ℕ)) (slots : Slots Task)
    → Each P slots → ((j : ℕ) → j < length team → (t : Task) → P (member_of team j).0.0 t)
    → Each P (with_members task number team slots)
members_each P task number [] slots all new = all
members_each P task number (m ∷ ms) slots all new =
    members_each P task (number + 1) ms (made slots m.0.0 (task number m.1))
    (each_made P slots m.0.0 (task number m.1) all (new 0 (omega arith) (task number m.1)))
    (λ j within t. new (suc j) (omega (arith, within)) t)

-- ---- threads that joined

pub got_each : (P : ℕ → Type 0) (count : ℕ) (asks : List (ℕ × Bool))
    → All (λ v. v < count) (map (λ x. x.0) asks) → ((v : ℕ) → v < count → Contains asks (v, true) → P v)
    → All P (got_threads asks)
got_each P count [] known each = All-nil P
got_each P count ((v, true) ∷ asks) known each =
    All-cons P v (got_threads asks)
    (each v (All-head (λ v. v < count) v (map (λ x. x.0) asks) known) (0, omega arith, refl))
    (got_each P count asks (All-tail (λ v. v < count) v (map (λ x. x.0) asks) known) (λ u less there. let (j, within, e) = there in each u less (suc j, omega (arith, within), e)))
got_each P count ((v, false) ∷ asks) known each =
    got_each P count asks (All-tail (λ v. v < count) v (map (λ x. x.0) asks) known)
    (λ u less there. let (j, within, e) = there in each u less (suc j, omega (arith, within), e))

by_thread : (P : ℕ → Type 0) (xs : List (Tid × ℕ)) → All P (map (λ m. m.1) xs) → All (λ x. P x.1) xs
by_thread P [] all = All-nil (λ x. P x.1)
by_thread P (x ∷ xs) all =
    All-cons (λ x. P x.1) x xs (All-head P x.1 (map (λ m. m.1) xs) all)
    (by_thread P xs (All-tail P x.1 (map (λ m. m.1) xs) all))

pub behind_master : (P : ℕ → Type 0) (xs : List (Tid × ℕ)) (i : ℕ) (gs : List ℕ) → map (λ m. m.1) xs ≡ i ∷ gs
    → All P gs → All (λ x. P x.1) (drop 1 xs)
behind_master P [] i gs is all = absurd (cc is)
behind_master P (x ∷ xs) i gs is all = by_thread P xs (subst (All P) (sym (ap (λ ys. drop 1 ys) is)) all)
