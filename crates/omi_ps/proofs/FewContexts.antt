-- There are no more contexts than recorded ids.
use Rattle.std.proofs.Common.{◌≡◌, ◌==◌, ◌≤◌, ◌<◌, ◌&&◌, Bool, true, false, ℕ, List, [], ◌∷◌, length, refl, sym, ap, subst, ◌∙◌, arith, eqb-true, eq-eqb}
use Rattle.std.specs.Prelude.{◌||◌, not, filter}
use Rattle.std.specs.List.Sorted.{IsStrictlyIncreasing}
use Rattle.std.proofs.lemmas.List.Filters.{length-filter_both}
use Rattle.omi_process.proofs.EachOnce.{kept_are}
use Rattle.omi_process.specs.Contexts.{has, AreThose, AreContexts}
use Rattle.omi_process.specs.declared.listed.Listed.TheVariants.{Threads}

-- of rising ids all of which are one there is one at most
alone : (xs : List ℕ) (y : ℕ) → IsStrictlyIncreasing xs → ((id : ℕ) → has xs id ≡ true → id ≡ y) → length xs ≤ 1
alone [] y rise each = omega arith
alone (a ∷ []) y rise each = omega arith
alone (a ∷ b ∷ rest) y rise each =
    let below : a < b = rise 0 (omega arith) in
    let first : a ≡ y = each a (ap (λ s. s || has (b ∷ rest) a) (eq-eqb a a refl)) in
    let second : b ≡ y = each b (ap (λ s. (a == b) || (s || has rest b)) (eq-eqb b b refl) ∙ or_true (a == b)) in
    absurd (omega (arith, below, first, second))
  where
    or_true : (s : Bool) → s || true ≡ true
    or_true true = refl
    or_true false = refl

both : (a b : Bool) → a && b ≡ true → (a ≡ true) × (b ≡ true)
both true true is = (refl, refl)
both true false is = (refl, is)
both false b is = (is, absurd (cc))

-- ids that rise, each of them among others, are no more than these
pub within : (ys xs : List ℕ) (test : ℕ → Bool) → AreThose test xs → ((id : ℕ) → test id ≡ true → has ys id ≡ true)
    → length xs ≤ length ys
within [] [] test are inside = omega arith
within [] (x ∷ xs) test are inside =
    let there : has (x ∷ xs) x ≡ true = ap (λ s. s || has xs x) (eq-eqb x x refl) in
    absurd (let none : false ≡ true = inside x (sym (are.each x) ∙ there) in cc)
within (y ∷ ys) xs test are inside =
    let is = λ (id : ℕ). id == y in
    let other = λ (id : ℕ). not (id == y) in
    let rest = within ys (filter other xs) (λ id. test id && other id) (kept_are other test xs are) left in
    let those = kept_are is test xs are in
    let one = alone (filter is xs) y those.rise (λ id among. eqb-true id y ((both (test id) (id == y) (sym (those.each id) ∙ among)).1)) in
    omega (arith, rest, one, length-filter_both is other (λ id. refl) xs)
  where
    left : (id : ℕ) → test id && not (id == y) ≡ true → has ys id ≡ true
    left id are =
        let b = both (test id) (not (id == y)) are in
        go (y == id) refl (inside id b.0)
      where
        go : (same : Bool) → (y == id) ≡ same → same || has ys id ≡ true → has ys id ≡ true
        go false e there = there
        go true e there = absurd (let b = both (test id) (not (id == y)) are in
            let s : y ≡ id = eqb-true y id e in
            let f : not (id == y) ≡ false = ap not (subst (λ z. (id == z) ≡ true) (sym s) (eq-eqb id id refl)) in
            let bad : true ≡ false = sym (b.1) ∙ f in cc)

pub few_contexts : (ids recorded contexts : List ℕ) (others : ℕ) → AreContexts (Threads ids) recorded contexts others
    → length contexts ≤ length recorded
few_contexts ids recorded contexts others are =
    within recorded contexts (λ id. has ids id && has recorded id) are.0 (λ id is. (both (has ids id) (has recorded id) is).1)
