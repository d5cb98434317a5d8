-- Chains that end don't come back to where they were.
use Rattle.std.proofs.Common.{◌≡◌, ℕ, zero, suc, ◌+◌, ◌*◌, Option, Some, None, refl, sym, ap, ◌∙◌, arith}
use Rattle.std.specs.Option.{option_and_then}
use Rattle.omi_model.specs.WellFormed.{along, Ends}

module _ {A : Type 0} (next : A → Option A) where
  along_add : (a b : ℕ) (from : Option A) → along next (a + b) from ≡ along next b (along next a from)
  along_add zero b from = let e : zero + b ≡ b = omega arith in ap (λ n. along next n from) e
  along_add (suc a) b from =
      let e : suc a + b ≡ suc (a + b) = omega arith in
      ap (λ n. along next n from) e ∙ along_add a b (option_and_then next from)

  -- one step more
  pub along_more : (n : ℕ) (from : Option A)
      → along next (suc n) from ≡ option_and_then next (along next n from)
  along_more zero from = refl
  along_more (suc n) from = along_more n (option_and_then next from)

  -- nothing follows the end
  none_stays : (n : ℕ) → along next n None ≡ None
  none_stays zero = refl
  none_stays (suc n) = none_stays n

  -- round and round
  around : (m d : ℕ) (x : A) → along next (suc d) (Some x) ≡ Some x → along next (m * suc d) (Some x) ≡ Some x
  around zero d x back = let e : zero * suc d ≡ zero = omega arith in ap (λ n. along next n (Some x)) e
  around (suc m) d x back =
      let e : suc m * suc d ≡ suc d + m * suc d = turns in
      ap (λ n. along next n (Some x)) e
      ∙ along_add (suc d) (m * suc d) (Some x)
      ∙ ap (along next (m * suc d)) back
      ∙ around m d x back
    where
      turns : suc m * suc d ≡ suc d + m * suc d
      turns = grind arith

  pub never_back : (d : ℕ) (x : A) → along next (suc d) (Some x) ≡ Some x → Ends next (Some x) → ⊥
  never_back d x back (n, end) =
      let e : n * suc d ≡ n + n * d = grind arith in
      let there : Some x ≡ None =
      sym (around n d x back)
      ∙ ap (λ m. along next m (Some x)) e
      ∙ along_add n (n * d) (Some x)
      ∙ ap (along next (n * d)) end
      ∙ none_stays (n * d) in
      absurd (cc there)
