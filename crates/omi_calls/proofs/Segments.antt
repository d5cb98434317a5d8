-- The words of the segments from a place of their list on.
use Rattle.std.proofs.Common.{◌≡◌, ℕ, zero, suc, ◌%◌, List, [], ◌∷◌, drop, Some, refl, ap, arith}
use Rattle.std.proofs.lemmas.Grind.{common_steps}
use Rattle.std.specs.Prelude.{slice_get}
use Rattle.std.specs.Option.{option_or}
use Rattle.omi_corefile.specs.declared.segment.Segment.{Segment}
use Rattle.omi_calls.specs.Told.{aligned_word_at}
use Rattle.omi_calls.specs.CoreWords.{word_of, words_of_segments}

-- one segment more was looked at
pub segment_more : (segments : List Segment) (place next : ℕ) (s : Segment) (addr : ℕ) → next ≡ suc place
    → slice_get segments place ≡ Some s
    → words_of_segments (drop place segments) addr ≡ option_or (word_of s addr) (words_of_segments (drop next segments) addr)
segment_more [] place next s addr after is = absurd (cc)
segment_more (x ∷ xs) zero next s addr after is =
    let same : x ≡ s = cc in
    rw after (ap (λ (y : Segment). option_or (word_of y addr) (words_of_segments xs addr)) same)
segment_more (x ∷ xs) (suc place) next s addr after is =
    rw after (segment_more xs place (suc place) s addr refl is)

-- the word at an aligned address
pub word_aligned : (segments : List Segment) (addr : ℕ) → addr % 8 ≡ 0
    → aligned_word_at (words_of_segments segments) addr ≡ words_of_segments segments addr
word_aligned segments addr aligned = grind (arith, common_steps)
