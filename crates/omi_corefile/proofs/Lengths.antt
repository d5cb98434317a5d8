-- How many bytes a core's fields have, and that the core of an image is spelled as its definition says.
use Rattle.std.proofs.Common.{◌≡◌, ℕ, ◌+◌, ◌*◌, ◌<◌, List, [], ◌∷◌, ◌++◌, length, refl, ap, ◌∙◌, append_assoc, arith, length-append}
use Rattle.std.specs.List.{flat_map}
use Rattle.std.proofs.lemmas.List.{append-nil}
use Rattle.std.proofs.lemmas.List.Sums.{sum_by-cons}
use Rattle.omi_corefile.specs.declared.segment.Segment.{Segment}
use Rattle.omi_corefile.specs.Limits.{total_words}
use Rattle.omi_word.specs.declared.limits.TheConstants.{FIRST_ADDRESS}
use Rattle.omi_corefile.specs.ByteOrder.{word_bytes}
use Rattle.omi_corefile.specs.Spelling.{eight_bytes, numbers, words_in, header, segment_bytes, spelling_of, segments_of, core_bytes}
use Rattle.omi_corefile.proofs.Numbers.{word_width}

pub length-words_in : (order : ℕ) (ns : List ℕ) → length (words_in order ns) ≡ 8 * length ns
length-words_in order [] = refl
length-words_in order (n ∷ ns) =
    omega
    (arith, (word_width order).len n, length-append (word_bytes order n) (words_in order ns), length-words_in order ns)

pub length-numbers : (ns : List ℕ) → length (numbers ns) ≡ 8 * length ns
length-numbers ns = length-words_in 0 ns

pub length-segments : (order : ℕ) (ss : List Segment)
    → length (flat_map (segment_bytes order) ss) ≡ 16 * length ss + 8 * total_words ss
length-segments order [] = refl
length-segments order (s ∷ ss) =
    let front : List ℕ = eight_bytes s.start ++ eight_bytes (length s.words) in
    omega
    (arith, length-append (segment_bytes order s) (flat_map (segment_bytes order) ss), length-append front (words_in order s.words), length-words_in order s.words, length-segments order ss, sum_by-cons (λ (t : Segment). length t.words) s ss)

pub length-spelling_of : (order : ℕ) (contexts : List ℕ) (segments : List Segment)
    → length (spelling_of order contexts segments) ≡ 16 + 8 * length contexts + 16 * length segments + 8 * total_words segments
length-spelling_of order contexts segments =
    omega
    (arith, length-append (numbers contexts) (flat_map (segment_bytes order) segments), length-numbers contexts, length-segments order segments)

-- one field after another, put at the end
pub three_fields : (out a b c : List ℕ) → ((out ++ a) ++ b) ++ c ≡ out ++ ((a ++ b) ++ c)
three_fields out a b c = simp append_assoc

pub four_fields : (out a b c d : List ℕ) → (((out ++ a) ++ b) ++ c) ++ d ≡ out ++ (a ++ b ++ c ++ d)
four_fields out a b c d = simp append_assoc

-- an image that has a word gives one segment
pub one_segment : (contexts words : List ℕ) → 0 < length words
    → spelling_of 0 contexts (segments_of words) ≡ core_bytes contexts words
one_segment contexts [] some = absurd (omega (arith, some))
one_segment contexts (w ∷ ws) some =
    let front = header 0 (length contexts) 1 ++ numbers contexts in
    ap (λ (x : List ℕ). front ++ x)
    (append-nil (eight_bytes FIRST_ADDRESS ++ eight_bytes (length (w ∷ ws)) ++ numbers (w ∷ ws)))
    ∙ simp append_assoc

pub segments_of_some : (words : List ℕ) → 0 < length words
    → segments_of words ≡ record { start = FIRST_ADDRESS; words = words } ∷ []
segments_of_some [] some = absurd (omega (arith, some))
segments_of_some (w ∷ ws) some = refl
