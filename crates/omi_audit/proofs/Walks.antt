-- Chains: one that ends meets none of its records a second time, and one that comes back to a record of its own is refused with this record.
use Rattle.std.proofs.Common.{◌≡◌, inl, inr, ℕ, zero, suc, ◌+◌, ◌-◌, ◌<◌, ◌≤◌, Bool, true, false, cond, List, [], ◌∷◌, length, Option, Some, None, refl, sym, ap, subst, ◌∙◌, arith}
use Rattle.std.specs.Prelude.{◌==◌}
use Rattle.std.specs.Option.{option_map_or, option_and_then}
use Rattle.omi_layout.specs.Named.{number}
use Rattle.omi_word.specs.Words.{Words}
use Rattle.omi_rep.specs.Look.{was_met}
use Rattle.omi_audit.specs.declared.verdict.Verdict.TheVariants.{No}
use Rattle.omi_audit.specs.Judged.{EndsIn}
use Rattle.omi_audit.specs.Search.{all_records}
use Rattle.omi_audit.specs.Verdicts.{chain_field, chain_clause, next_in_chain, met_again, refused_chain}
use Rattle.omi_audit.proofs.FirstOnes.{or_cases}
use Rattle.std.proofs.lemmas.Bool.{eqb-true}

module _ (w : List ℕ) (words : Words) where
  -- ---- chains that end

  -- it ends in one place alone
  ends_once : (d e a : ℕ) → EndsIn w words d a → EndsIn w words e a → d ≡ e
  ends_once zero zero a first second = refl
  ends_once zero (suc e) a first second = absurd (let clash = sym first ∙ second.1 in cc)
  ends_once (suc d) zero a first second = absurd (let clash = sym second ∙ first.1 in cc)
  ends_once (suc d) (suc e) a first second =
      let both : ◌≡◌ {A = Option ℕ} (Some first.0) (Some second.0) = sym first.1 ∙ second.1 in
      let same : first.0 ≡ second.0 = cc in
      ap suc (ends_once d e second.0 (subst (EndsIn w words d) same first.2) second.2)

  -- each of these has a chain that ends further off
  abbrev IsFar : ℕ → List ℕ → Type 0
  IsFar d met = (x : ℕ) → was_met met x ≡ true → (e : ℕ) × (d < e) × EndsIn w words e x

  -- and so no record is met on it a second time
  fresh_next : (n a : ℕ) (met : List ℕ)
      → ((d b : ℕ) → EndsIn w words d b → IsFar d (a ∷ met) → met_again w words n (a ∷ met) b ≡ None)
      → (d : ℕ) → EndsIn w words d a → IsFar d met
      → option_and_then (met_again w words n (a ∷ met)) (next_in_chain w words a) ≡ None
  fresh_next n a met rest zero ends far = ap (option_and_then (met_again w words n (a ∷ met))) ends
  fresh_next n a met rest (suc d) ends far =
      ap (option_and_then (met_again w words n (a ∷ met))) ends.1
      ∙ rest d ends.0 ends.2 (λ x is. elim (or_cases (a == x) (was_met met x) is) [
        | inl same ↦ (suc d, (let low : d < suc d = omega arith in low), subst (EndsIn w words (suc d)) (eqb-true a x same) ends)
        | inr among ↦ let there = far x among in (there.0, (let off = there.1 in let low : d < there.0 = omega (arith, off) in low), there.2)
      ])

  fresh_here : (b : Bool) (n d a : ℕ) (met : List ℕ) → was_met met a ≡ b → EndsIn w words d a → IsFar d met
      → option_and_then (met_again w words n (a ∷ met)) (next_in_chain w words a) ≡ None
      → cond b (Some a) (option_and_then (met_again w words n (a ∷ met)) (next_in_chain w words a)) ≡ None
  fresh_here true n d a met is ends far none =
      let there = far a is in
      absurd (let same = ends_once d there.0 a ends there.2 in let off = there.1 in omega (arith, same, off))
  fresh_here false n d a met is ends far none = none

  ends_fresh : (n d a : ℕ) (met : List ℕ) → EndsIn w words d a → IsFar d met → met_again w words n met a ≡ None
  ends_fresh zero d a met ends far = refl
  ends_fresh (suc n) d a met ends far =
      fresh_here (was_met met a) n d a met refl ends far
      (fresh_next n a met (λ e b. ends_fresh n e b (a ∷ met)) d ends far)

  -- a chain that ends is not refused
  pub ends_clear : (d a : ℕ) → EndsIn w words d a → refused_chain w words a ≡ []
  ends_clear d a ends =
      ap (λ o. option_map_or (λ again. No again (number (chain_field w words a)) (chain_clause w words a) ∷ []) o [])
      (ends_fresh (suc (all_records w words)) d a [] ends (λ x is. absurd (cc)))

  -- ---- a chain that is followed

  -- the records from the last to the first, each in front of the one that it leads to
  abbrev pub AreLinked : List ℕ → Option ℕ → Type 0
  AreLinked [] current = Unit {0}
  AreLinked (x ∷ xs) current = (next_in_chain w words x ≡ current) × AreLinked xs (Some x)

  -- so far these records were met from the start on, and this one comes next
  pub record IsWalk (start : ℕ) (path : List ℕ) (current : Option ℕ) : Type 0 where
    pub again : (n : ℕ) → met_again w words (length path + n) [] start ≡ option_and_then (met_again w words n path) current
    pub linked : AreLinked path current

  pub walk_first : (start : ℕ) → IsWalk start [] (Some start)
  walk_first start = record {
    again = λ n. ap (λ k. met_again w words k [] start) (let e : 0 + n ≡ n = omega arith in e);
    linked = tt;
  }

  pub walk_next : (start a : ℕ) (path : List ℕ) → IsWalk start path (Some a) → was_met path a ≡ false
      → IsWalk start (a ∷ path) (next_in_chain w words a)
  walk_next start a path walk fresh = record {
    again = λ n.
        ap (λ k. met_again w words k [] start) (let e : suc (length path) + n ≡ length path + suc n = omega arith in e)
        ∙ walk.again (suc n)
        ∙ ap (λ b. cond b (Some a) (option_and_then (met_again w words n (a ∷ path)) (next_in_chain w words a))) fresh;
    linked = (refl, walk.linked);
  }

  -- it comes back to one of its records
  pub walk_again : (start a : ℕ) (path : List ℕ) → IsWalk start path (Some a) → was_met path a ≡ true
      → length path ≤ all_records w words
      → refused_chain w words start ≡ No a (number (chain_field w words start)) (chain_clause w words start) ∷ []
  walk_again start a path walk back few =
      ap (λ o. option_map_or (λ again. No again (number (chain_field w words start)) (chain_clause w words start) ∷ []) o [])
      (ap (λ k. met_again w words k [] start) (let e : suc (all_records w words) ≡ length path + suc (all_records w words - length path) = omega arith in e)
      ∙ walk.again (suc (all_records w words - length path))
      ∙ ap (λ b. cond b (Some a) (option_and_then (met_again w words (all_records w words - length path) (a ∷ path)) (next_in_chain w words a))) back)

  -- where it comes to an end, or to a chain that ends, the chains of all its records end
  abbrev pub Finishes : Option ℕ → Type 0
  Finishes None = Unit {0}
  Finishes (Some a) = (d : ℕ) × EndsIn w words d a

  finish_one : (x : ℕ) (current : Option ℕ) → next_in_chain w words x ≡ current → Finishes current → Finishes (Some x)
  finish_one x None is ends = (0, is)
  finish_one x (Some a) is ends = (suc ends.0, (a, is, ends.1))

  pub walk_ends : (path : List ℕ) (current : Option ℕ) → AreLinked path current → Finishes current
      → (x : ℕ) → was_met path x ≡ true → Finishes (Some x)
  walk_ends [] current linked ends x is = absurd (cc)
  walk_ends (y ∷ path) current linked ends x is =
      let here = finish_one y current linked.0 ends in
      elim (or_cases (y == x) (was_met path x) is) [
        | inl same ↦ subst (λ z. Finishes (Some z)) (eqb-true y x same) here
        | inr among ↦ walk_ends path (Some y) linked.1 here x among
      ]
