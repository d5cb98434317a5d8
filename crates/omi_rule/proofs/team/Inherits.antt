-- The words of the data environment of a new implicit task are the codes of what it inherits.
use Rattle.std.proofs.Common.{◌≡◌, ◌+◌, ◌-◌, ◌<◌, ◌≤◌, nat_lt, ℕ, zero, suc, Bool, true, false, List, [], ◌∷◌, length, slice_get, slice_index, Some, refl, sym, ap, ◌∙◌, arith, ltb-true, if◌then◌else◌}
use Rattle.std.proofs.lemmas.Bool.Decides.{nat_tests}
use Rattle.std.proofs.lemmas.Option.{slice_get_within}
use Rattle.omi_model.specs.declared.task.Variables.{Variables}
use Rattle.omi_numbers.specs.Words.{flag}
use Rattle.omi_script.specs.Schedules.{schedule_word}
use Rattle.omi_model.specs.Teams.{inherited, shortened}
use Rattle.omi_step_words.specs.Plan.{inherited_words}
use Rattle.omi_rule.specs.Rows.{IsVariable}

-- the words of a data environment are those of these variables. Of the words of nthreads-var behind its elements nothing is said
pub record AreVariables (words : List ℕ) (v : Variables) : Type 0 where
  pub dynamic : slice_index words 0 ≡ flag v.dynamic
  pub size : slice_index words 1 ≡ length v.nthreads
  pub schedule : slice_index words 2 ≡ schedule_word v.schedule
  pub device : slice_index words 3 ≡ v.device
  pub elements : (j n : ℕ) → slice_get v.nthreads j ≡ Some n → slice_index words (4 + j) ≡ n

pub shortened_few : (ns : List ℕ) → length ns ≤ 4 → length (shortened ns) ≤ 4
shortened_few [] few = few
shortened_few (n ∷ []) few = few
shortened_few (n ∷ k ∷ ns) few = omega (arith, few)

module _ (v : Variables) (words : List ℕ) (few : length v.nthreads ≤ 4)
    (known : (j : ℕ) → j < 8 → IsVariable v j (slice_index words j)) where
  -- the list behind its first element
  behind : (n k : ℕ) (ns : List ℕ) → v.nthreads ≡ n ∷ k ∷ ns → (j x : ℕ) → slice_get (k ∷ ns) j ≡ Some x
      → slice_index (slice_index words 0 ∷ (slice_index words 1 - 1) ∷ slice_index words 2 ∷ slice_index words 3 ∷ slice_index words 5 ∷ slice_index words 6 ∷ slice_index words 7 ∷ 0 ∷ []) (4 + j) ≡ x
  behind n k ns is zero x there = known 5 (omega arith) x (ap (λ xs. slice_get xs 1) is ∙ there)
  behind n k ns is (suc zero) x there = known 6 (omega arith) x (ap (λ xs. slice_get xs 2) is ∙ there)
  behind n k ns is (suc (suc zero)) x there = known 7 (omega arith) x (ap (λ xs. slice_get xs 3) is ∙ there)
  behind n k ns is (suc (suc (suc j))) x there =
      let within : suc (suc (suc j)) < length (k ∷ ns) =
      slice_get_within (k ∷ ns) (suc (suc (suc j))) x there in
      let long : length v.nthreads ≡ suc (suc (length ns)) = ap length is in
      absurd (omega (arith, within, long, few))

  all_there : (j x : ℕ) → slice_get v.nthreads j ≡ Some x → slice_index words (4 + j) ≡ x
  all_there zero x there = known 4 (omega arith) x there
  all_there (suc zero) x there = known 5 (omega arith) x there
  all_there (suc (suc zero)) x there = known 6 (omega arith) x there
  all_there (suc (suc (suc zero))) x there = known 7 (omega arith) x there
  all_there (suc (suc (suc (suc j)))) x there =
      let within : suc (suc (suc (suc j))) < length v.nthreads = slice_get_within v.nthreads (suc (suc (suc (suc j)))) x there in absurd (omega (arith, within, few))

  pub are_variables : AreVariables words v
  are_variables = record {
    dynamic = known 0 (omega arith);
    size = known 1 (omega arith);
    schedule = known 2 (omega arith);
    device = known 3 (omega arith);
    elements = all_there;
  }

  pub inherits : AreVariables (inherited_words words) (inherited v)
  inherits = go v.nthreads refl (nat_lt 1 (slice_index words 1)) refl
    where
      size : slice_index words 1 ≡ length v.nthreads
      size = known 1 (omega arith)

      kept : shortened v.nthreads ≡ v.nthreads → AreVariables words (inherited v)
      kept same = record {
        dynamic = known 0 (omega arith);
        size = size ∙ ap length (sym same);
        schedule = known 2 (omega arith);
        device = known 3 (omega arith);
        elements = λ j x there. all_there j x (ap (λ xs. slice_get xs j) (sym same) ∙ there);
      }

      go : (ns : List ℕ) → v.nthreads ≡ ns → (b : Bool) → nat_lt 1 (slice_index words 1) ≡ b
          → AreVariables
          (if b then slice_index words 0 ∷ (slice_index words 1 - 1) ∷ slice_index words 2 ∷ slice_index words 3 ∷ slice_index words 5 ∷ slice_index words 6 ∷ slice_index words 7 ∷ 0 ∷ [] else words) (inherited v)
      go [] is true e =
          let long : length v.nthreads ≡ 0 = ap length is in let more = ltb-true 1 (slice_index words 1) e in absurd (omega (arith, long, size, more))
      go (n ∷ []) is true e =
          let long : length v.nthreads ≡ 1 = ap length is in let more = ltb-true 1 (slice_index words 1) e in absurd (omega (arith, long, size, more))
      go (n ∷ k ∷ ns) is true e =
          let long : length v.nthreads ≡ suc (suc (length ns)) = ap length is in
          record {
            dynamic = known 0 (omega arith);
            size = (let less : slice_index words 1 - 1 ≡ suc (length ns) = omega (arith, size, long) in less ∙ ap (λ xs. length (shortened xs)) (sym is));
            schedule = known 2 (omega arith);
            device = known 3 (omega arith);
            elements = λ j x there. behind n k ns is j x (ap (λ xs. slice_get (shortened xs) j) (sym is) ∙ there);
          }
      go [] is false e = kept (ap shortened is ∙ sym is)
      go (n ∷ []) is false e = kept (ap shortened is ∙ sym is)
      go (n ∷ k ∷ ns) is false e =
          let long : length v.nthreads ≡ suc (suc (length ns)) = ap length is in
          let most : slice_index words 1 ≤ 1 = grind (arith, nat_tests, e) in
          absurd (omega (arith, long, size, most))
