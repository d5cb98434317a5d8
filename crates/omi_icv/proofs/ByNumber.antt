-- What holds of the number of each variable, and of every other number, holds of all numbers.
use Rattle.std.proofs.Common.{◌≡◌, ◌==◌, ℕ, Bool, true, false, refl, subst, arith}
use Rattle.std.proofs.lemmas.Bool.Decides.{nat_tests}

split : (P : ℕ → Type 0) (k n : ℕ) → P k → (n == k ≡ false → P n) → P n
split P k n at other = go (n == k) refl
  where
    go : (b : Bool) → n == k ≡ b → P n
    go true e = let same : k ≡ n = grind (arith, nat_tests) in subst P same at
    go false e = other e

pub by_number : (P : ℕ → Type 0) → P 1 → P 2 → P 3 → P 4 → P 5 → P 6 → P 7 → P 8 → P 9 → P 10 → P 11 → P 12
    → P 13
    → ((n : ℕ) → n == 1 ≡ false → n == 2 ≡ false → n == 3 ≡ false → n == 4 ≡ false → n == 5 ≡ false → n == 6 ≡ false → n == 7 ≡ false
    → n == 8 ≡ false → n == 9 ≡ false → n == 10 ≡ false → n == 11 ≡ false → n == 12 ≡ false → n == 13 ≡ false → P n)
    → (n : ℕ) → P n
by_number P a b c d e f g h i j k l m other n =
    split P 1 n a (λ n1. split P 2 n b (λ n2. split P 3 n c (λ n3. split P 4 n d (λ n4. split P 5 n e (λ n5. split P 6 n f (λ n6. split P 7 n g (λ n7.
    split P 8 n h (λ n8. split P 9 n i (λ n9. split P 10 n j (λ n10. split P 11 n k (λ n11. split P 12 n l (λ n12. split P 13 n m (λ n13.
    other n n1 n2 n3 n4 n5 n6 n7 n8 n9 n10 n11 n12 n13)))))))))))))
