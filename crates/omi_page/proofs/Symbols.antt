-- The words of a symbol, read one after the other.
use Rattle.std.proofs.Common.{◌≡◌, ℕ, ◌+◌, [], ◌∷◌, Option, ap, ◌∙◌, arith}
use Rattle.omi_word.specs.Words.{Words}
use Rattle.omi_calls.specs.Told.{aligned_word_at}
use Rattle.omi_word.specs.SymbolTable.{words_from}
use Rattle.omi_page.specs.AllWords.{all_words}

pub five_are : (words : Words) (at : ℕ) (first second third fourth fifth : Option ℕ)
    → first ≡ aligned_word_at words at → second ≡ aligned_word_at words (at + 8)
    → third ≡ aligned_word_at words (at + 16)
    → fourth ≡ aligned_word_at words (at + 24) → fifth ≡ aligned_word_at words (at + 32) → all_words (first ∷ second ∷ third ∷ fourth ∷ fifth ∷ []) ≡ words_from (aligned_word_at words) at 5
five_are words at first second third fourth fifth is1 is2 is3 is4 is5 =
    let here3 : at + 16 ≡ at + 8 + 8 = omega arith in
    let here4 : at + 24 ≡ at + 8 + 8 + 8 = omega arith in
    let here5 : at + 32 ≡ at + 8 + 8 + 8 + 8 = omega arith in
    let all3 = is3 ∙ ap (aligned_word_at words) here3 in
    let all4 = is4 ∙ ap (aligned_word_at words) here4 in
    let all5 = is5 ∙ ap (aligned_word_at words) here5 in
    λ i. all_words (is1 i ∷ is2 i ∷ all3 i ∷ all4 i ∷ all5 i ∷ [])
