-- The cause of a count that rose in one call behind another.
use Rattle.std.proofs.Common.{◌≡◌, ◌≤◌, arith, ℕ, subst, sym}
use Rattle.omi_outside.specs.Outside.{HasCause, Rose}

-- a count that rose later rose on the whole
pub rose_later : (a b c : ℕ) → a ≤ b → Rose b c → Rose a c
rose_later a b c later rose = first_of (omega (arith, later, rose), grind (arith, later, rose))

-- a cause, of counts that are the same under other names, and of a narrower failure
pub cause_as : {P Q : Type 0} (a b c d : ℕ) → a ≡ c → b ≡ d → (Q → P) → HasCause c d P → HasCause a b Q
cause_as a b c d first last narrower cause = record {
  later = omega (arith, first, last, cause.later);
  failed = λ q. subst (λ (n : ℕ). Rose n b) (sym first) (subst (λ (n : ℕ). Rose c n) (sym last) (cause.failed (narrower q)));
}

-- a cause behind a call that didn't fail
pub cause_behind : {P : Type 0} (a b c : ℕ) → a ≤ b → HasCause b c P → HasCause a c P
cause_behind a b c later cause = record { later = omega (arith, later, cause.later); failed = λ p. rose_later a b c later (cause.failed p) }
