-- What acknowledgement words say.
use Rattle.std.proofs.Common.{◌≡◌, inl, inr, ◌≤◌, ◌==◌, ◌||◌, ◌+◌, ◌*◌, ◌/◌, ℕ, Bool, true, false, refl, sym, ap, ◌∙◌, arith, eqb-true}
use Rattle.std.proofs.lemmas.Nat.{div-mul-add, mod-mul-add}
use Rattle.omi_seat.specs.declared.limits.TheConstants.{MOST_BUDGET}
use Rattle.omi_park.specs.declared.limits.TheConstants.{HALF, LAST_EPOCH, LEFT, RUNS}
use Rattle.omi_park.specs.Acknowledged.{HasLeft, HasNotBegun, IsOdd, IsParkedIn, IsRunning, IsStill, acknowledgement, farewell, is_still, running, steps_said}

module _ (epoch steps : ℕ) (few : steps ≤ MOST_BUDGET) where
  pub parked_half : acknowledgement epoch steps / HALF ≡ epoch
  parked_half = div-mul-add epoch HALF steps (omega (arith, few))

  pub parked_steps : steps_said (acknowledgement epoch steps) ≡ steps
  parked_steps = mod-mul-add epoch HALF steps (omega (arith, few))

  pub parked_stays : epoch ≤ LAST_EPOCH → HasLeft (acknowledgement epoch steps) → ⊥
  parked_stays early left =
      let word : 0 * LEFT + acknowledgement epoch steps ≡ acknowledgement epoch steps = omega arith in
      let none : acknowledgement epoch steps / LEFT ≡ 0 =
      ap (λ n. n / LEFT) (sym word)
      ∙ div-mul-add 0 LEFT (acknowledgement epoch steps) (omega (arith, early, few)) in
      omega (arith, none, left)

  pub parked_begun : IsOdd epoch → HasNotBegun (acknowledgement epoch steps) → ⊥
  parked_begun odd none = omega (arith, odd, none)

  pub runs_now : IsRunning (running steps)
  runs_now = div-mul-add 1 RUNS steps (omega (arith, few))

  pub left_now : HasLeft (farewell steps)
  left_now = div-mul-add 1 LEFT steps (omega (arith, few))

  pub left_steps : steps_said (farewell steps) ≡ steps
  left_steps = mod-mul-add 2147483648 HALF steps (omega (arith, few))

-- a word that says that its worker runs says nothing else
module _ (word : ℕ) (runs : IsRunning word) where
  pub runs_begun : HasNotBegun word → ⊥
  runs_begun none = let top = runs in omega (arith, top, none)

  pub runs_stays : HasLeft word → ⊥
  runs_stays left = let top = runs in let gone = left in omega (arith, top, gone)

  pub runs_free : (epoch : ℕ) → epoch ≤ LAST_EPOCH → IsParkedIn epoch word → ⊥
  runs_free epoch last parked = let top = runs in let half = parked.1 in omega (arith, top, half, last)

  pub runs_on : (epoch : ℕ) → epoch ≤ LAST_EPOCH → IsStill epoch word → ⊥
  runs_on epoch last (inl none) = runs_begun none
  runs_on epoch last (inr (inl left)) = runs_stays left
  runs_on epoch last (inr (inr parked)) = runs_free epoch last parked

-- a word that is found to say so
pub still_is : (epoch word : ℕ) → IsOdd epoch → is_still epoch word ≡ true → IsStill epoch word
still_is epoch word odd = go (word == 0) refl (word / LEFT == 1) refl (word / HALF == epoch) refl
  where
    never : true ≡ false → ⊥
    never is = grind (arith, is)

    go : (a : Bool) → word == 0 ≡ a → (b : Bool) → word / LEFT == 1 ≡ b → (c : Bool) → word / HALF == epoch ≡ c
        → is_still epoch word ≡ true → IsStill epoch word
    go true none b left c half still = inl (eqb-true word 0 none)
    go false none true left c half still = inr (inl (eqb-true (word / LEFT) 1 left))
    go false none false left true half still = inr (inr (odd, eqb-true (word / HALF) epoch half))
    go false none false left false half still =
        absurd (never
        (sym still ∙ (λ k. (none k) || ((left k) || (half k)))))
