-- The members of a team in the making: one more gets its task, and the threads are those that were asked.
use Rattle.std.proofs.Common.{◌≡◌, ◌≢◌, ◌+◌, ◌==◌, ◌||◌, ◌<◌, ◌≤◌, ℕ, zero, suc, Bool, true, false, List, [], ◌∷◌, ◌++◌, length, map, take, refl, sym, ap, ◌∙◌, subst, arith, eq-eqb, if◌then◌else◌}
use Rattle.std.specs.List.{All}
use Rattle.std.proofs.lemmas.List.Elements.{All-append, All-cons, All-head, All-nil, All-tail}
use Rattle.omi_model.specs.declared.id.Tid.{Tid}
use Rattle.omi_model.specs.Columns.{tasks_of, with_task}
use Rattle.omi_model.specs.LawClaims.{others_below}
use Rattle.omi_model.specs.Teams.{got_threads}
use Rattle.omi_rule_words.specs.Counts.{has_slot}
use Rattle.omi_rule_words.specs.Words.{AreApart}
use Rattle.omi_step_words.specs.Members.{member_of}

-- ---- a member gets its task

pub with_task_size : (t : Tid) (n : ℕ) (xs : List (Tid × ℕ)) → length (with_task t n xs) ≡ length xs
with_task_size t n [] = refl
with_task_size t zero (x ∷ xs) = refl
with_task_size t (suc n) (x ∷ xs) = ap suc (with_task_size t n xs)

pub with_task_threads : (t : Tid) (n : ℕ) (xs : List (Tid × ℕ))
    → map (λ m. m.1) (with_task t n xs) ≡ map (λ m. m.1) xs
with_task_threads t n [] = refl
with_task_threads t zero (x ∷ xs) = refl
with_task_threads t (suc n) (x ∷ xs) = ap (λ ys. x.1 ∷ ys) (with_task_threads t n xs)

pub with_task_other : (t : Tid) (n : ℕ) (xs : List (Tid × ℕ)) (j : ℕ) → j < n
    → member_of (with_task t n xs) j ≡ member_of xs j
with_task_other t n [] j below = refl
with_task_other t zero (x ∷ xs) j below = absurd (omega (arith, below))
with_task_other t (suc n) (x ∷ xs) zero below = refl
with_task_other t (suc n) (x ∷ xs) (suc j) below = with_task_other t n xs j (omega (arith, below))

pub with_task_here : (t : Tid) (n : ℕ) (xs : List (Tid × ℕ)) → n < length xs
    → (member_of (with_task t n xs) n).0 ≡ t
with_task_here t n [] within = absurd (omega (arith, within))
with_task_here t zero (x ∷ xs) within = refl
with_task_here t (suc n) (x ∷ xs) within = with_task_here t n xs (omega (arith, within))

pub with_task_taken : (t : Tid) (n : ℕ) (xs : List (Tid × ℕ)) → n < length xs
    → take (n + 1) (tasks_of (with_task t n xs)) ≡ take n (tasks_of xs) ++ t ∷ []
with_task_taken t n xs within = ap (λ k. take k (tasks_of (with_task t n xs))) more ∙ go n xs within
  where
    more : n + 1 ≡ suc n
    more = omega arith

    go : (n : ℕ) (xs : List (Tid × ℕ)) → n < length xs
        → take (suc n) (tasks_of (with_task t n xs)) ≡ take n (tasks_of xs) ++ t ∷ []
    go n [] within = absurd (omega (arith, within))
    go zero (x ∷ xs) within = refl
    go (suc n) (x ∷ xs) within = ap (λ ys. x.0 ∷ ys) (go n xs (omega (arith, within)))

pub all_taken : (xs : List (Tid × ℕ)) → take (length xs) (tasks_of xs) ≡ tasks_of xs
all_taken [] = refl
all_taken (x ∷ xs) = ap (λ ys. x.0 ∷ ys) (all_taken xs)

-- ---- slots

or_left : (a b : Bool) → a || b ≡ false → a ≡ false
or_left false b e = refl
or_left true b e = absurd (cc e)

or_right : (a b : Bool) → a || b ≡ false → b ≡ false
or_right false b e = e
or_right true b e = absurd (cc e)

-- none of the first members has this slot
pub no_slot : (slot : ℕ) (n : ℕ) (xs : List (Tid × ℕ)) (j : ℕ) → has_slot slot (take n (tasks_of xs)) ≡ false
    → j < n → j < length xs → (member_of xs j).0.0.slot ≢ slot
no_slot slot n [] j none below within = absurd (omega (arith, within))
no_slot slot zero (x ∷ xs) j none below within = absurd (omega (arith, below))
no_slot slot (suc n) (x ∷ xs) zero none below within =
    λ same. cc (sym (eq-eqb x.0.0.slot slot same), or_left (x.0.0.slot == slot) (has_slot slot (take n (tasks_of xs))) none)
no_slot slot (suc n) (x ∷ xs) (suc j) none below within =
    no_slot slot n xs j (or_right (x.0.0.slot == slot) (has_slot slot (take n (tasks_of xs))) none)
    (omega (arith, below)) (omega (arith, within))

-- and one that does not come first
not_here : (k : ℕ) (n : ℕ) (xs : List (Tid × ℕ)) → has_slot k (take (suc n) (tasks_of xs)) ≡ false
    → n < length xs → (member_of xs n).0.0.slot ≢ k
not_here k n xs none within = no_slot k (suc n) xs n none (omega arith) within

-- no two have one slot
pub slots_apart : (n : ℕ) (xs : List (Tid × ℕ)) (j : ℕ) → AreApart (take (n + 1) (tasks_of xs)) → j < n
    → n < length xs → (member_of xs j).0.0.slot ≢ (member_of xs n).0.0.slot
slots_apart n xs j apart below within =
    go n xs j (subst (λ k. AreApart (take k (tasks_of xs))) more apart) below within
  where
    more : n + 1 ≡ suc n
    more = omega arith

    go : (n : ℕ) (xs : List (Tid × ℕ)) (j : ℕ) → AreApart (take (suc n) (tasks_of xs)) → j < n → n < length xs
        → (member_of xs j).0.0.slot ≢ (member_of xs n).0.0.slot
    go n [] j apart below within = absurd (omega (arith, within))
    go zero (x ∷ xs) j apart below within = absurd (omega (arith, below))
    go (suc n) (x ∷ xs) zero (first, rest) below within =
        λ same. not_here x.0.0.slot n xs first (omega (arith, within)) (sym same)
    go (suc n) (x ∷ xs) (suc j) (first, rest) below within =
        go n xs j rest (omega (arith, below)) (omega (arith, within))

-- ---- threads

pub others_known : (i n count : ℕ) → n ≤ count → All (λ v. v < count) (others_below i n)
others_known i zero count few = All-nil (λ v. v < count)
others_known i (suc n) count few =
    All-append (λ v. v < count) (others_below i n) (if n == i then [] else n ∷ [])
    (others_known i n count (omega (arith, few))) (go (n == i))
  where
    go : (b : Bool) → All (λ v. v < count) (if b then [] else n ∷ [])
    go true = All-nil (λ v. v < count)
    go false = All-cons (λ v. v < count) n [] (omega (arith, few)) (All-nil (λ v. v < count))

got_known : (P : ℕ → Type 0) (asks : List (ℕ × Bool)) → All P (map (λ x. x.0) asks) → All P (got_threads asks)
got_known P [] all = All-nil P
got_known P ((v, true) ∷ asks) all =
    All-cons P v (got_threads asks) (All-head P v (map (λ x. x.0) asks) all)
    (got_known P asks (All-tail P v (map (λ x. x.0) asks) all))
got_known P ((v, false) ∷ asks) all = got_known P asks (All-tail P v (map (λ x. x.0) asks) all)

member_known : (P : ℕ → Type 0) (xs : List (Tid × ℕ)) (j : ℕ) → All P (map (λ m. m.1) xs) → j < length xs
    → P (member_of xs j).1
member_known P [] j all within = absurd (omega (arith, within))
member_known P (x ∷ xs) zero all within = All-head P x.1 (map (λ m. m.1) xs) all
member_known P (x ∷ xs) (suc j) all within =
    member_known P xs j (All-tail P x.1 (map (λ m. m.1) xs) all) (omega (arith, within))

-- the threads of a team that was asked are threads of the program
pub threads_known : (i n count : ℕ) (asks : List (ℕ × Bool)) (team : List (Tid × ℕ)) → i < count → n ≤ count
    → map (λ x. x.0) asks ≡ others_below i n → map (λ m. m.1) team ≡ i ∷ got_threads asks
    → (j : ℕ) → j < length team → (member_of team j).1 < count
threads_known i n count asks team own few asked joined j within =
    member_known (λ v. v < count) team j
    (subst (All (λ v. v < count)) (sym joined) (All-cons (λ v. v < count) i (got_threads asks) own (got_known (λ v. v < count) asks (subst (All (λ v. v < count)) (sym asked) (others_known i n count few))))) within
