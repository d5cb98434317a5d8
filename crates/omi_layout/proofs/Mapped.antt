-- Words of an image are mapped.
use Rattle.std.proofs.Common.{◌≡◌, ℕ, ◌%◌, ◌<◌, ◌≤◌, Bool, true, false, cond, List, length, get_or, refl, ap, ◌∙◌, arith}
use Rattle.std.specs.Prelude.{Some, None}
use Rattle.std.proofs.lemmas.Bool.Decides.{nat_tests}
use Rattle.omi_word.specs.Memory.{address_at, place_of, word_at}
use Rattle.omi_word.proofs.Addresses.{place-address, placed_word}
use Rattle.omi_word.specs.Words.{words_of, is_word}

-- the word at a place of an image
pub image_word : (words : List ℕ) (p : ℕ) → p < length words
    → words_of words (address_at p) ≡ Some (get_or words p 0)
image_word words p within =
    ap (λ b. cond b (Some (word_at words (address_at p))) None) test
    ∙ ap Some (ap (λ at. get_or words at 0) (place-address p))
  where
    test : is_word words (address_at p) ≡ true
    test =
        let there = placed_word words p within in
        let even = there.aligned in
        let above = there.above in
        let below = there.below in
        grind (arith, nat_tests)

-- where a word stands, and which it is
pub record Stands (words : List ℕ) (addr x : ℕ) : Type 0 where
  pub at : addr ≡ address_at (place_of addr)
  pub within : place_of addr < length words
  pub word : x ≡ get_or words (place_of addr) 0

pub stands : (words : List ℕ) (addr x : ℕ) → words_of words addr ≡ Some x → Stands words addr x
stands words addr x is = go (is_word words addr) refl is
  where
    go : (b : Bool) → is_word words addr ≡ b → cond b (Some (word_at words addr)) None ≡ Some x
        → Stands words addr x
    go false e f = absurd (cc)
    go true e f =
        let even : addr % 8 ≡ 0 = grind (arith, nat_tests) in
        let above : 65536 ≤ addr = grind (arith, nat_tests) in
        let below : place_of addr < length words = grind (arith, nat_tests) in
        record { at = omega arith; within = below; word = cc }
