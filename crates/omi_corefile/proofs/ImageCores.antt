-- The core of an image that has a word is within the limits of a core.
use Rattle.std.proofs.Common.{◌≡◌, ℕ, ◌<◌, ◌≤◌, List, ◌∷◌, [], length, refl, sym, ◌∙◌, ap, arith}
use Rattle.std.specs.Prelude.{IsTrue}
use Rattle.std.proofs.lemmas.List.Sums.{sum_by-cons}
use Rattle.std.proofs.lemmas.Bool.{le-leb, lt-ltb}
use Rattle.omi_word.specs.declared.limits.TheConstants.{FIRST_ADDRESS, MOST_WORDS}
use Rattle.omi_corefile.specs.declared.limits.TheConstants.{MOST_CONTEXTS, MOST_SEGMENT_WORDS}
use Rattle.omi_corefile.specs.declared.segment.Segment.{Segment}
use Rattle.omi_corefile.specs.declared.core_image.CoreImage.{CoreImage}
use Rattle.omi_corefile.specs.Limits.{rises_from, total_words, are_words, are_contexts, are_segments, within_limits}
use Rattle.omi_corefile.specs.Spelling.{Core, HoldsImage, core_bytes, spelling_of}
use Rattle.omi_corefile.proofs.Lengths.{one_segment, segments_of_some}

module _ (contexts words : List ℕ) (rising : IsTrue (rises_from 0 contexts)) (few_contexts : length contexts ≤ MOST_CONTEXTS)
    (numbers : IsTrue (are_words contexts)) (fit : IsTrue (are_words words)) (few : length words ≤ MOST_WORDS) (some : 0 < length words) where
  -- the one segment
  abbrev segments : List Segment
  segments = record { start = FIRST_ADDRESS; words = words } ∷ []

  contexts_fit : IsTrue (are_contexts contexts)
  contexts_fit = rw (le-leb (length contexts) MOST_CONTEXTS few_contexts, rising, numbers) refl

  segments_fit : IsTrue (are_segments segments)
  segments_fit =
      let total : total_words segments ≡ length words = sum_by-cons (λ (s : Segment). length s.words) (record { start = FIRST_ADDRESS; words = words }) [] ∙ omega arith in
      rw (lt-ltb 0 (length words) some, fit, total, le-leb (length words) MOST_SEGMENT_WORDS few) refl

  limits : IsTrue (within_limits 0 contexts segments)
  limits = rw (contexts_fit, segments_fit) refl

  pub image_core : (c : CoreImage) × Core (core_bytes contexts words) c × HoldsImage contexts words c
  image_core = (
    record { order = 0; contexts = contexts; segments = segments; limits = limits },
    sym (ap (λ (ss : List Segment). spelling_of 0 contexts ss) (sym (segments_of_some words some)) ∙ one_segment contexts words some),
    record { order = refl; contexts_are = refl; segments = refl },
  )
