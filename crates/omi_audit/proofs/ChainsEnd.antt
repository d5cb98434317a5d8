-- A chain that is not refused ends: it meets no record twice, and there are only so many.
use Rattle.std.proofs.Common.{◌≡◌, ℕ, zero, suc, ◌+◌, ◌<◌, ◌≤◌, ◌||◌, not, Bool, true, false, cond, List, [], ◌∷◌, length, Option, Some, None, refl, sym, ap, ◌∙◌, arith, eqb-true, eq-eqb}
use Rattle.std.specs.Prelude.{◌==◌}
use Rattle.std.specs.Option.{option_map_or, option_and_then}
use Rattle.omi_layout.specs.Named.{number}
use Rattle.omi_word.specs.Words.{Words}
use Rattle.omi_rep.specs.Look.{was_met}
use Rattle.omi_audit.specs.declared.verdict.Verdict.TheVariants.{No}
use Rattle.omi_audit.specs.Judged.{EndsIn}
use Rattle.omi_audit.specs.Search.{all_records, reached}
use Rattle.omi_audit.specs.Verdicts.{chain_field, chain_clause, next_in_chain, met_again, refused_chain}
use Rattle.omi_audit.proofs.Chained.{reached_lives, next_reached}
use Rattle.omi_audit.proofs.FirstOnes.{has, unmet, fewer_pass, all_pass, or_first}
use Rattle.omi_audit.proofs.Reaches.{record_addresses, lives_within, all_long}

same_way : (x y : ℕ) → (x == y) ≡ (y == x)
same_way x y = go (x == y) refl (y == x) refl
  where
    go : (a : Bool) → (x == y) ≡ a → (b : Bool) → (y == x) ≡ b → a ≡ b
    go true e true f = refl
    go true e false f = sym (eq-eqb y x (sym (eqb-true x y e))) ∙ f
    go false e true f = sym e ∙ eq-eqb x y (sym (eqb-true y x f))
    go false e false f = refl

-- whether an address was met is whether it is among those that were met
pub met_has : (met : List ℕ) (x : ℕ) → was_met met x ≡ has met x
met_has [] x = refl
met_has (y ∷ ys) x = ap (λ b. b || was_met ys x) (same_way y x) ∙ ap (λ b. (x == y) || b) (met_has ys x)

not_before : (a b : Bool) → not (a || b) ≡ true → not b ≡ true
not_before true b is = absurd (cc)
not_before false b is = is

-- one that is met for the first time is one fewer that is not met
fewer_unmet : (all met : List ℕ) (x : ℕ) → has all x ≡ true → has met x ≡ false → unmet all (x ∷ met) < unmet all met
fewer_unmet all met x among fresh =
    fewer_pass (λ y. not (has met y)) (λ y. not (has (x ∷ met) y))
    (λ y is. not_before (y == x) (has met y) is) x (ap not fresh)
    (ap not (or_first (x == x) (has met x) (eq-eqb x x refl))) all among

module _ (w : List ℕ) (words : Words) where
  -- so many more records may follow
  fresh_ends : (n : ℕ) (met : List ℕ) (a : ℕ) → length met + n ≡ suc (all_records w words)
      → length met + unmet (record_addresses w) met ≤ length (record_addresses w)
      → has (reached w words) a ≡ true → met_again w words n met a ≡ None
      → (d : ℕ) × EndsIn w words d a
  fresh_ends zero met a long few among none =
      absurd (let all = all_long w words in omega (arith, long, few, all))
  fresh_ends (suc n) met a long few among none =
      here (was_met met a) refl none (λ x fresh goes rest.
      let fewer = fewer_unmet (record_addresses w) met a (lives_within w words a (reached_lives w words a among)) (sym (met_has met a) ∙ fresh) in
      fresh_ends n (a ∷ met) x (omega (arith, long)) (omega (arith, few, fewer)) (next_reached w words a x among goes) rest)
    where
      next : (o : Option ℕ) → next_in_chain w words a ≡ o → option_and_then (met_again w words n (a ∷ met)) o ≡ None
          → ((x : ℕ) → next_in_chain w words a ≡ Some x → met_again w words n (a ∷ met) x ≡ None → (d : ℕ) × EndsIn w words d x)
          → (d : ℕ) × EndsIn w words d a
      next None goes rest more = (0, goes)
      next (Some x) goes rest more = let ends = more x goes rest in (suc ends.0, (x, goes, ends.1))

      here : (b : Bool) → was_met met a ≡ b
          → cond b (Some a) (option_and_then (met_again w words n (a ∷ met)) (next_in_chain w words a)) ≡ None
          → ((x : ℕ) → was_met met a ≡ false → next_in_chain w words a ≡ Some x → met_again w words n (a ∷ met) x ≡ None → (d : ℕ) × EndsIn w words d x)
          → (d : ℕ) × EndsIn w words d a
      here true e rest more = absurd (cc)
      here false e rest more = next (next_in_chain w words a) refl rest (λ x. more x e)

  pub chain_ends : (a : ℕ) → has (reached w words) a ≡ true → refused_chain w words a ≡ []
      → (d : ℕ) × EndsIn w words d a
  chain_ends a among none =
      fresh_ends (suc (all_records w words)) [] a (omega arith)
      (let most = all_pass (record_addresses w) in omega (arith, most)) among
      (go (met_again w words (suc (all_records w words)) [] a) none)
    where
      go : (o : Option ℕ) → option_map_or (λ again. No again (number (chain_field w words a)) (chain_clause w words a) ∷ []) o [] ≡ [] → o ≡ None
      go None e = refl
      go (Some x) e = absurd (cc)
