-- Sums of which each part is 0.
use Rattle.std.proofs.lemmas.Bool.Decides.{nat_tests}
use Rattle.std.proofs.Common.{◌≢◌, ◌+◌, ◌==◌, ◌<◌, ◌≤◌, Bool, true, false, eqb-true, eq-eqb, ne_eqb, if◌then◌else◌, sym, ◌≡◌, ℕ, zero, suc, List, refl, ap, ◌∙◌, arith}
use Rattle.omi_model.specs.State.{State}
use Rattle.omi_model.specs.declared.task.Task.{Task}
use Rattle.omi_layout.specs.Field.{tasks}
use Rattle.omi_layout.specs.Table.{per_thread}
use Rattle.omi_rule_words.specs.Owes.{Owed, nothing}
use Rattle.omi_rule_words.specs.Counts.{sum_below, sum_of_owed, sum_of_slots, of_live}

pub sum_none : (n : ℕ) (f : ℕ → ℕ) → ((i : ℕ) → f i ≡ 0) → sum_below n f ≡ 0
sum_none zero f none = refl
sum_none (suc n) f none =
    let before = sum_none n f none in
    let last = none n in
    omega (arith, before, last)

-- where no thread owes anything
pub owed_none : (s : State) (owes : ℕ → Owed) (f : Owed → ℕ) → ((i : ℕ) → owes i ≡ nothing) → f nothing ≡ 0
    → sum_of_owed s owes f ≡ 0
owed_none s owes f none zero_is = sum_none s.count (λ i. f (owes i)) (λ i. ap f (none i) ∙ zero_is)

pub slots_none : (w : List ℕ) (s : State) (f : ℕ → ℕ → Task → ℕ)
    → ((c k : ℕ) → of_live (f c k) (s.tasks c k).live ≡ 0) → sum_of_slots w s f ≡ 0
slots_none w s f none =
    sum_none s.count (λ c. sum_below (per_thread w tasks) (λ k. of_live (f c k) (s.tasks c k).live))
    (λ c. sum_none (per_thread w tasks) (λ k. of_live (f c k) (s.tasks c k).live) (none c))

-- sums of the same parts
pub sum_same : (n : ℕ) (f g : ℕ → ℕ) → ((i : ℕ) → f i ≡ g i) → sum_below n f ≡ sum_below n g
sum_same zero f g same = refl
sum_same (suc n) f g same =
    let before = sum_same n f g same in
    let last = same n in
    omega (arith, before, last)

pub slots_same : (w : List ℕ) (s : State) (f g : ℕ → ℕ → Task → ℕ)
    → ((c k : ℕ) → of_live (f c k) (s.tasks c k).live ≡ of_live (g c k) (s.tasks c k).live)
    → sum_of_slots w s f ≡ sum_of_slots w s g
slots_same w s f g same =
    sum_same s.count (λ c. sum_below (per_thread w tasks) (λ k. of_live (f c k) (s.tasks c k).live))
    (λ c. sum_below (per_thread w tasks) (λ k. of_live (g c k) (s.tasks c k).live))
    (λ c. sum_same (per_thread w tasks) (λ k. of_live (f c k) (s.tasks c k).live) (λ k. of_live (g c k) (s.tasks c k).live) (same c))

-- a sum with one part changed
pub sum_changed : (n i : ℕ) (f g : ℕ → ℕ) → i < n → ((k : ℕ) → k ≢ i → g k ≡ f k)
    → sum_below n g + f i ≡ sum_below n f + g i
sum_changed zero i f g within same = absurd (omega (arith, within))
sum_changed (suc n) i f g within same = go (λ before. sum_changed n i f g before same) (i == n) refl
  where
    all_same : (n : ℕ) → n ≤ i → sum_below n g ≡ sum_below n f
    all_same zero before = refl
    all_same (suc n) before =
        let front = all_same n (omega (arith, before)) in
        let last = same n (λ is. omega (arith, is, before)) in
        omega (arith, front, last)

    go : (i < n → sum_below n g + f i ≡ sum_below n f + g i) → (b : Bool) → i == n ≡ b
        → sum_below n g + g n + f i ≡ sum_below n f + f n + g i
    go front_changed true e =
        let is : i ≡ n = eqb-true i n e in
        let front = all_same n (omega (arith, is)) in
        let f_is : f i ≡ f n = ap f is in
        let g_is : g i ≡ g n = ap g is in
        omega (arith, front, f_is, g_is)
    go front_changed false e =
        let ne : i ≡ n → ⊥ = λ is. grind (arith, nat_tests) in
        let before = front_changed (omega (arith, within, ne)) in
        let last = same n (λ is. ne (sym is)) in
        omega (arith, before, last)

-- a part is no more than the sum
pub part_below : (n i : ℕ) (f : ℕ → ℕ) → i < n → f i ≤ sum_below n f
part_below zero i f within = absurd (omega (arith, within))
part_below (suc n) i f within = go (λ before. part_below n i f before) (i == n) refl
  where
    go : (i < n → f i ≤ sum_below n f) → (b : Bool) → i == n ≡ b → f i ≤ sum_below n f + f n
    go front true e = let is : f i ≡ f n = ap f (eqb-true i n e) in omega (arith, is)
    go front false e =
        let ne : i ≡ n → ⊥ = λ is. grind (arith, nat_tests) in
        let before = front (omega (arith, within, ne)) in
        omega (arith, before)

-- and two parts are together
pub parts_below : (n i j : ℕ) (f : ℕ → ℕ) → i < n → j < n → j ≢ i → f i + f j ≤ sum_below n f
parts_below n i j f first second apart =
    let rest : ℕ → ℕ = λ k. if k == i then 0 else f k in
    let none : rest i ≡ 0 = ap (λ b. if b then 0 else f i) (eq-eqb i i refl) in
    let there : rest j ≡ f j = ap (λ b. if b then 0 else f j) (ne_eqb j i apart) in
    let change = sum_changed n i f rest first (λ k ne. ap (λ b. if b then 0 else f k) (ne_eqb k i ne)) in
    let part = part_below n j rest second in
    omega (arith, none, there, change, part)

-- the same, where the parts are known below the bound alone
pub sum_same_within : (n : ℕ) (f g : ℕ → ℕ) → ((i : ℕ) → i < n → f i ≡ g i) → sum_below n f ≡ sum_below n g
sum_same_within zero f g same = refl
sum_same_within (suc n) f g same =
    let before = sum_same_within n f g (λ i within. same i (omega (arith, within))) in
    let last = same n (omega arith) in
    omega (arith, before, last)

pub sum_none_within : (n : ℕ) (f : ℕ → ℕ) → ((i : ℕ) → i < n → f i ≡ 0) → sum_below n f ≡ 0
sum_none_within zero f none = refl
sum_none_within (suc n) f none =
    let before = sum_none_within n f (λ i within. none i (omega (arith, within))) in
    let last = none n (omega arith) in
    omega (arith, before, last)

pub slots_none_within : (w : List ℕ) (s : State) (f : ℕ → ℕ → Task → ℕ)
    → ((c k : ℕ) → c < s.count → k < per_thread w tasks → of_live (f c k) (s.tasks c k).live ≡ 0)
    → sum_of_slots w s f ≡ 0
slots_none_within w s f none =
    sum_none_within s.count (λ c. sum_below (per_thread w tasks) (λ k. of_live (f c k) (s.tasks c k).live))
    (λ c maker. sum_none_within (per_thread w tasks) (λ k. of_live (f c k) (s.tasks c k).live) (λ k place. none c k maker place))
