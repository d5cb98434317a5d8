-- What callbacks over a range tell is its memory.
use Rattle.std.proofs.Common.{◌≡◌, ℕ, List, refl, ap}
use Rattle.omi_calls.specs.Told.{Told}
use Rattle.omi_session.specs.Tells.{Tells}
use Rattle.omi_c.specs.Range.{words_from, memory_of, told_by_range}

pub range_tells : (start : ℕ) (words : List ℕ) (told : Told) → told ≡ told_by_range start words
    → Tells told (memory_of start words)
range_tells start words told is = record {
  order = 0;
  order_told = ap (λ t. t.order) is;
  words = words_from start words;
  rest = words_from start words;
  words_told = ap (λ t. t.words (words_from start words)) is;
  is = refl;
}
