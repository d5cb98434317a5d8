-- A fact of each slot of each thread, where it is shown at one slot by itself.
use Rattle.std.proofs.Common.{◌≡◌, ◌≢◌, ◌⊎◌, ℕ, inl, inr, sym, subst}
use Rattle.std.proofs.lemmas.Bool.{cases_eq}

pub each_place : (P : ℕ → ℕ → Type 0) (a b : ℕ) → P a b → ((c j : ℕ) → (c ≡ a → j ≡ b → ⊥) → P c j)
    → (c j : ℕ) → P c j
each_place P a b here beside c j = go (cases_eq c a) (cases_eq j b)
  where
    go : (c ≡ a) ⊎ (c ≢ a) → (j ≡ b) ⊎ (j ≢ b) → P c j
    go (inl creator) (inl place) = subst (λ d. P d j) (sym creator) (subst (λ q. P a q) (sym place) here)
    go (inl creator) (inr ne) = beside c j (λ _ place. ne place)
    go (inr ne) q = beside c j (λ creator _. ne creator)
