-- A run has few steps where each thread makes few.
use Rattle.std.proofs.Common.{◌≡◌, ◌≢◌, ◌<◌, ◌≤◌, ◌+◌, ◌*◌, ◌==◌, ◌++◌, ◌⊎◌, inl, inr, ℕ, zero, suc, Bool, true, false, List, [], ◌∷◌, length, refl, ap, ◌∙◌, subst, arith, eq-eqb, eqb-true, if◌then◌else◌}
use Rattle.std.proofs.lemmas.Bool.{cases_lt}
use Rattle.std.proofs.Math.Nat.{suc-mul}
use Rattle.omi_word.specs.Memory.{words_after}
use Rattle.omi_script.specs.declared.program.Program.{Program}
use Rattle.omi_model.specs.declared.event.Event.{Event}
use Rattle.omi_model.specs.State.{State}
use Rattle.omi_layout.specs.Memory.{replace_at}
use Rattle.omi_rule.specs.Steps.{committed}
use Rattle.omi_core.specs.declared.entry.Entry.{Entry}
use Rattle.omi_core.specs.Steps.{Steps, Watches, steps_of}

-- each step is one of a thread that there is
abbrev AreOf : ℕ → List (ℕ × Entry) → Type 0
AreOf n [] = Unit {0}
AreOf n (x ∷ xs) = (x.0 < n) × AreOf n xs

pub are_of : (p : Program) (w words : List ℕ) (past : List (ℕ × Event)) (s : State) (watches : Watches) (xs : List (ℕ × Entry)) (last : List ℕ) (t : State) (later : Watches)
    → Steps p w words past s watches xs last t later → AreOf p.threads xs
are_of p w words past s watches [] last t later steps = tt
are_of p w words past s watches (x ∷ xs) last t later (next, watch, one, seen, rest) =
    (one.thread, are_of p w (words_after words x.1.op) (past ++ committed x.0 x.1.outcome) next (replace_at watches x.0 watch) xs last t later rest)

-- the steps of the first threads, counted thread by thread
abbrev counted : ℕ → List (ℕ × Entry) → ℕ
counted zero xs = 0
counted (suc n) xs = length (steps_of n xs) + counted n xs

own : (n : ℕ) (x : ℕ × Entry) (xs : List (ℕ × Entry)) → x.0 ≡ n
    → length (steps_of n (x ∷ xs)) ≡ length (steps_of n xs) + 1
own n x xs is =
    ap (λ (b : Bool). length (if b then x.1 ∷ steps_of n xs else steps_of n xs)) (eq-eqb x.0 n is)
    ∙ omega arith

other : (n : ℕ) (x : ℕ × Entry) (xs : List (ℕ × Entry)) → x.0 ≢ n
    → length (steps_of n (x ∷ xs)) ≡ length (steps_of n xs)
other n x xs not = go (x.0 == n) refl
  where
    go : (b : Bool) → x.0 == n ≡ b
        → length (if b then x.1 ∷ steps_of n xs else steps_of n xs) ≡ length (steps_of n xs)
    go true is = absurd (not (eqb-true x.0 n is))
    go false is = refl

not_counted : (n : ℕ) (x : ℕ × Entry) (xs : List (ℕ × Entry)) → n ≤ x.0 → counted n (x ∷ xs) ≡ counted n xs
not_counted zero x xs past = refl
not_counted (suc n) x xs past =
    let here = other n x xs (λ same. omega (arith, past, same)) in
    let rest = not_counted n x xs (omega (arith, past)) in
    omega (arith, here, rest)

one_more : (n : ℕ) (x : ℕ × Entry) (xs : List (ℕ × Entry)) → x.0 < n → counted n (x ∷ xs) ≡ counted n xs + 1
one_more zero x xs below = absurd (omega (arith, below))
one_more (suc n) x xs below = go (one_more n x xs) (cases_lt x.0 n)
  where
    go : (x.0 < n → counted n (x ∷ xs) ≡ counted n xs + 1) → (x.0 < n) ⊎ (n ≤ x.0)
        → counted (suc n) (x ∷ xs) ≡ counted (suc n) xs + 1
    go among (inl less) =
        let here = other n x xs (λ same. omega (arith, less, same)) in
        let rest = among less in
        omega (arith, here, rest)
    go among (inr more) =
        let here = own n x xs (omega (arith, below, more)) in
        let rest = not_counted n x xs more in
        omega (arith, here, rest)

none_counted : (n : ℕ) → counted n [] ≡ 0
none_counted zero = refl
none_counted (suc n) = let rest = none_counted n in omega (arith, rest)

all_counted : (n : ℕ) (xs : List (ℕ × Entry)) → AreOf n xs → counted n xs ≡ length xs
all_counted n [] all = none_counted n
all_counted n (x ∷ xs) (here, all) =
    let first = one_more n x xs here in
    let rest = all_counted n xs all in
    omega (arith, first, rest)

few_counted : (n m : ℕ) (xs : List (ℕ × Entry)) → ((i : ℕ) → length (steps_of i xs) ≤ m)
    → counted n xs ≤ n * m
few_counted zero m xs few = omega arith
few_counted (suc n) m xs few =
    let here = few n in
    let rest = few_counted n m xs few in
    omega (arith, here, rest, suc-mul n m)

pub few_in_all : (n m : ℕ) (xs : List (ℕ × Entry)) → AreOf n xs → ((i : ℕ) → length (steps_of i xs) ≤ m)
    → length xs ≤ n * m
few_in_all n m xs all few = subst (λ k. k ≤ n * m) (all_counted n xs all) (few_counted n m xs few)
