-- The core of an image tells the words of the image.
use Rattle.std.proofs.Common.{◌≡◌, ◌==◌, ◌%◌, ◌&&◌, ℕ, Bool, true, false, List, [], ◌∷◌, length, Option, Some, None, if◌then◌else◌, refl, ap, ◌∙◌}
use Rattle.std.specs.Prelude.{nat_le, nat_lt, slice_get, slice_index}
use Rattle.std.specs.Option.{option_or}
use Rattle.std.proofs.lemmas.Bool.{ltb-true, ltb-false}
use Rattle.std.proofs.lemmas.Option.{slice_get-get_or, slice_get_past}
use Rattle.omi_calls.specs.Told.{aligned_word_at}
use Rattle.omi_calls.specs.CoreWords.{words_of_segments as segment_words}
use Rattle.omi_corefile.specs.Spelling.{HoldsImage}
use Rattle.omi_corefile.specs.declared.core_image.CoreImage.{CoreImage}
use Rattle.omi_corefile.specs.declared.segment.Segment.{Segment}
use Rattle.omi_word.specs.Memory.{place_of}
use Rattle.omi_word.specs.declared.limits.TheConstants.{FIRST_ADDRESS}
use Rattle.omi_word.specs.Words.{words_of}

-- the words of one segment from the first address on
at_place : (aligned above within : Bool) (words : List ℕ) (place : ℕ) → nat_lt place (length words) ≡ within
    → (if aligned then option_or (if above then slice_get words place else None) None else None) ≡ (if aligned && (above && within) then Some (slice_index words place) else None)
at_place false above within words place e = refl
at_place true false within words place e = refl
at_place true true true words place e =
    ap (λ (x : Option ℕ). option_or x None) (slice_get-get_or words place 0 (ltb-true place (length words) e))
at_place true true false words place e =
    ap (λ (x : Option ℕ). option_or x None) (slice_get_past words place (ltb-false place (length words) e))

alone : (words : List ℕ) (addr : ℕ)
    → aligned_word_at (segment_words (record { start = FIRST_ADDRESS; words = words } ∷ [])) addr ≡ words_of words addr
alone words addr =
    at_place (addr % 8 == 0) (nat_le FIRST_ADDRESS addr) (nat_lt (place_of addr) (length words)) words
    (place_of addr) refl

-- two memories with the same word at each address are one
same_words : (f g : ℕ → Option ℕ) → ((addr : ℕ) → f addr ≡ g addr) → f ≡ g
same_words f g each = λ i addr. each addr i

pub image_words : (ids words : List ℕ) (core : CoreImage) → HoldsImage ids words core
    → aligned_word_at (segment_words core.segments) ≡ words_of words
image_words ids words core holds =
    ap (λ (segments : List Segment). aligned_word_at (segment_words segments)) holds.segments
    ∙ same_words (aligned_word_at (segment_words (record { start = FIRST_ADDRESS; words = words } ∷ [])))
    (words_of words) (alone words)
