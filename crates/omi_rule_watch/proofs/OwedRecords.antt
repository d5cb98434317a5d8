-- How many records a thread owes: those that its counter says, by their odd life words.
use Rattle.std.proofs.Common.{◌≡◌, ◌<◌, ◌≤◌, ◌+◌, ◌*◌, ◌%◌, ◌==◌, ◌&&◌, ◌||◌, ℕ, zero, suc, Bool, true, false, List, [], ◌∷◌, length, take, Option, Some, None, refl, ap, arith, eqb-true}
use Rattle.std.specs.Prelude.{is_none}
use Rattle.std.proofs.lemmas.List.{length-take}
use Rattle.omi_model.specs.declared.id.Tid.{Tid}
use Rattle.omi_model.specs.declared.slot.Slot.{Slot}
use Rattle.omi_model.specs.State.{State}
use Rattle.omi_layout.specs.declared.field.Field.{Field}
use Rattle.omi_layout.specs.declared.field.Field.TheVariants.{RegionLife, TaskLife}
use Rattle.omi_layout.specs.Field.{regions, tasks}
use Rattle.omi_layout.specs.Memory.{Memory, Rec}
use Rattle.omi_layout.specs.Named.{number}
use Rattle.omi_layout.specs.Table.{per_thread}
use Rattle.omi_rule_words.specs.Counts.{has_region_slot, has_slot, one, sum_below}
use Rattle.omi_rule_words.specs.Objects.{KeepsLife}
use Rattle.omi_rule_words.specs.Owes.{Owed}
use Rattle.omi_rule_words.specs.Words.{KeepsWords}
use Rattle.omi_rule_watch.specs.Demands.{is_in_making, owed_regions, owed_tasks}

-- ---- sums

sum_zero : (n : ℕ) (f : ℕ → ℕ) → ((j : ℕ) → j < n → f j ≡ 0) → sum_below n f ≡ 0
sum_zero zero f none = refl
sum_zero (suc n) f none =
    let front = sum_zero n f (λ j below. none j (omega (arith, below))) in
    let last = none n (omega arith) in
    omega (arith, front, last)

sum_more : (n : ℕ) (f g h : ℕ → ℕ) → ((j : ℕ) → j < n → f j ≤ g j + h j)
    → sum_below n f ≤ sum_below n g + sum_below n h
sum_more zero f g h more = omega arith
sum_more (suc n) f g h more =
    let front = sum_more n f g h (λ j below. more j (omega (arith, below))) in
    let last = more n (omega arith) in
    omega (arith, front, last)

-- one number is met once at most
sum_met : (n c : ℕ) → sum_below n (λ j. one (c == j)) ≤ 1
sum_met zero c = omega arith
sum_met (suc n) c = go (sum_met n c) (c == n) refl
  where
    other : (j : ℕ) → j < n → (b : Bool) → c == j ≡ b → c ≡ n → one b ≡ 0
    other j below true e is = let same : c ≡ j = eqb-true c j e in absurd (omega (arith, below, is, same))
    other j below false e is = refl

    go : sum_below n (λ j. one (c == j)) ≤ 1 → (b : Bool) → c == n ≡ b
        → sum_below n (λ j. one (c == j)) + one b ≤ 1
    go front true e =
        let is : c ≡ n = eqb-true c n e in
        let none = sum_zero n (λ j. one (c == j)) (λ j below. other j below (c == j) refl is) in
        omega (arith, none)
    go front false e = omega (arith, front)

one_or : (b c : Bool) → one (b || c) ≤ one b + one c
one_or true c = omega arith
one_or false c = omega arith

-- a list of tasks has at most so many slots as tasks
slots_few : (n : ℕ) (ks : List Tid) → sum_below n (λ j. one (has_slot j ks)) ≤ length ks
slots_few n [] = let none = sum_zero n (λ j. one (has_slot j [])) (λ j below. refl) in omega (arith, none)
slots_few n (k ∷ ks) =
    let parts =
    sum_more n (λ j. one (has_slot j (k ∷ ks))) (λ j. one (k.0.slot == j)) (λ j. one (has_slot j ks))
    (λ j below. one_or (k.0.slot == j) (has_slot j ks)) in
    let first = sum_met n k.0.slot in
    let rest = slots_few n ks in
    omega (arith, parts, first, rest)

-- ---- life words

-- a record that is not owed is not in the making
not_in_making : {A : Type 0} (slot : Slot A) (r : Rec) (life : Field) (owed : Bool)
    → KeepsLife r life slot owed → owed ≡ false → one (is_in_making slot (r (number life) 0)) ≡ 0
not_in_making slot r life owed keeps none = go slot.live refl
  where
    go : (l : Option _) → slot.live ≡ l → one (is_none l && r (number life) 0 % 2 == 1) ≡ 0
    go (Some x) e = refl
    go None e =
        let word : r (number life) 0 ≡ 2 * slot.generations = keeps.free e none in
        even (r (number life) 0 % 2 == 1) refl word
      where
        even : (b : Bool) → r (number life) 0 % 2 == 1 ≡ b → r (number life) 0 ≡ 2 * slot.generations
            → one b ≡ 0
        even true odd word =
            let is = eqb-true (r (number life) 0 % 2) 1 odd in absurd (omega (arith, is, word))
        even false odd word = refl

in_making_owed : {A : Type 0} (slot : Slot A) (r : Rec) (life : Field) (owed : Bool)
    → KeepsLife r life slot owed → one (is_in_making slot (r (number life) 0)) ≤ one owed
in_making_owed slot r life true keeps = most (is_in_making slot (r (number life) 0))
  where
    most : (b : Bool) → one b ≤ 1
    most true = omega arith
    most false = omega arith
in_making_owed slot r life false keeps =
    let none = not_in_making slot r life false keeps refl in omega (arith, none)

-- ---- a thread

module _ (w : List ℕ) (m : Memory) (s : State) (owes : ℕ → Owed) (words : KeepsWords w m s owes) (i : ℕ)
    (known : i < s.count) where
  -- no record of a region is owed
  pub no_region_owed : (owes i).region ≡ None → owed_regions w m s i < 1
  no_region_owed none =
      let is = sum_zero (per_thread w regions) (λ slot. one (is_in_making (s.regions i slot) (m i regions slot (number RegionLife) 0)))
      (λ slot below. not_in_making (s.regions i slot) (m i regions slot) RegionLife (has_region_slot slot (owes i).region) ((words.made i known).regions slot below).life (ap (has_region_slot slot) none)) in
      omega (arith, is)

  -- no more tasks are owed than these
  pub tasks_owed : owed_tasks w m s i ≤ length (owes i).tasks
  tasks_owed =
      let parts = sum_more (per_thread w tasks) (λ slot. one (is_in_making (s.tasks i slot) (m i tasks slot (number TaskLife) 0))) (λ slot. one (has_slot slot (owes i).tasks)) (λ slot. 0)
      (λ slot below. let most = in_making_owed (s.tasks i slot) (m i tasks slot) TaskLife (has_slot slot (owes i).tasks) ((words.made i known).tasks slot below).life in omega (arith, most)) in
      let zeros = sum_zero (per_thread w tasks) (λ slot. 0) (λ slot below. refl) in
      let few = slots_few (per_thread w tasks) (owes i).tasks in
      omega (arith, parts, zeros, few)

pub first_few : (n : ℕ) (ks : List Tid) → length (take n ks) ≤ n
first_few n ks = let is = length-take n ks in omega (arith, is)
