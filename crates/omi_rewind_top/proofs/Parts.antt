-- The numbers of the parts of a word, one part after the other.
use Rattle.std.proofs.Common.{Bool, true, false, cond, leb-true, subst, ◌==◌, ◌&&◌, ◌≡◌, ◌≤◌, ◌++◌, ℕ, List, [], ◌∷◌, length, Option, Some, None, refl, arith}
use Rattle.std.specs.Prelude.{nat_le, option_and_then, option_map}
use Rattle.std.specs.List.{All, slice_split}
use Rattle.std.specs.Str.Parse.{digits_value}
use Rattle.std.proofs.lemmas.List.Elements.{All-cons, All-nil}
use Rattle.omi_line.specs.Number.{is_decimal_text, number_between}
use Rattle.omi_model.proofs.Slots.{none_some, some_same}
use Rattle.omi_rewind.specs.declared.limits.TheConstants.{LAST_STEP}
use Rattle.omi_rewind_top.specs.Command.{numbers_in, steps_of}
use Rattle.omi_rewind_top.specs.declared.limits.TheConstants.{MOST_JUMPS}

-- these numbers, and behind them those of some parts
abbrev pub numbers_behind : List ℕ → List (List ℕ) → Option (List ℕ)
numbers_behind numbers parts = option_map (λ ns. numbers ++ ns) (numbers_in parts)

-- behind no number stand all of them
pub all_behind : (parts : List (List ℕ)) → numbers_behind [] parts ≡ numbers_in parts
all_behind parts = go (numbers_in parts)
  where
    go : (o : Option (List ℕ)) → option_map (λ ns. [] ++ ns) o ≡ o
    go None = refl
    go (Some ns) = refl

-- ---- no number lies behind the last step

within_most : (b : Bool) (v n most : ℕ) → nat_le v most ≡ b → cond b (Some v) None ≡ Some n → n ≤ most
within_most false v n most test is = absurd (none_some refl is)
within_most true v n most test is =
    let same : v ≡ n = some_same refl is in
    let low : v ≤ most = leb-true v most test in
    omega (arith, same, low)

between_low : (text : List ℕ) (n : ℕ) → number_between text 0 LAST_STEP ≡ Some n → n ≤ LAST_STEP
between_low text n is = go (is_decimal_text text) (nat_le 0 (digits_value 10 text)) (digits_value 10 text) is
  where
    go : (d a : Bool) (v : ℕ) → cond (d && (a && nat_le v LAST_STEP)) (Some v) None ≡ Some n → n ≤ LAST_STEP
    go false a v e = absurd (none_some refl e)
    go true false v e = absurd (none_some refl e)
    go true true v e = within_most (nat_le v LAST_STEP) v n LAST_STEP refl e

all_numbers : (parts : List (List ℕ)) (ns : List ℕ) → numbers_in parts ≡ Some ns → All (λ n. n ≤ LAST_STEP) ns
all_numbers [] ns is =
    let none : [] ≡ ns = cc in
    subst (λ (l : List ℕ). All (λ n. n ≤ LAST_STEP) l) none (All-nil (λ n. n ≤ LAST_STEP))
all_numbers (part ∷ parts) ns is =
    go (all_numbers parts) (number_between part 0 LAST_STEP) refl (numbers_in parts) refl is
  where
    go : ((ms : List ℕ) → numbers_in parts ≡ Some ms → All (λ n. n ≤ LAST_STEP) ms)
        → (o : Option ℕ) → number_between part 0 LAST_STEP ≡ o → (r : Option (List ℕ)) → numbers_in parts ≡ r
        → option_and_then (λ k. option_map (λ (l : List ℕ). k ∷ l) r) o ≡ Some ns → All (λ n. n ≤ LAST_STEP) ns
    go others None e r f same = absurd (cc)
    go others (Some n) e None f same = absurd (cc)
    go others (Some n) e (Some ms) f same =
        let are : n ∷ ms ≡ ns = cc in
        subst (λ (l : List ℕ). All (λ k. k ≤ LAST_STEP) l) are
        (All-cons (λ k. k ≤ LAST_STEP) n ms (between_low part n e) (others ms f))

pub all_steps : (text ns : List ℕ) → steps_of text ≡ Some ns → All (λ n. n ≤ LAST_STEP) ns
all_steps text ns is =
    go (nat_le (length (slice_split (λ b. b == 44) text)) MOST_JUMPS) (slice_split (λ b. b == 44) text) is
  where
    go : (b : Bool) (parts : List (List ℕ)) → cond b (numbers_in parts) None ≡ Some ns → All (λ n. n ≤ LAST_STEP) ns
    go false parts same = absurd (cc)
    go true parts same = all_numbers parts ns same
