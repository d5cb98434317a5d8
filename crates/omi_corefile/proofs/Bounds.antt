-- What the limits of a core say, fact by fact.
use Rattle.std.proofs.Common.{◌≡◌, ℕ, ◌≤◌, true, leb, List, length}
use Rattle.std.specs.Prelude.{IsTrue, ◌&&◌}
use Rattle.std.proofs.lemmas.Bool.{and_parts, leb-true}
use Rattle.omi_corefile.specs.declared.segment.Segment.{Segment}
use Rattle.omi_corefile.specs.declared.core_image.CoreImage.{CoreImage}
use Rattle.omi_corefile.specs.ByteOrder.{is_order}
use Rattle.omi_corefile.specs.Limits.{rises_from, are_words, rise_apart_from, total_words, are_contexts, are_segments, within_limits}
use Rattle.omi_word.specs.declared.limits.TheConstants.{FIRST_ADDRESS}
use Rattle.omi_corefile.specs.declared.limits.TheConstants.{MOST_CONTEXTS, MOST_SEGMENTS, MOST_SEGMENT_WORDS}

-- the limits of a core
pub record Bounds (order : ℕ) (contexts : List ℕ) (segments : List Segment) : Type 0 where
  pub order_is : is_order order ≡ true
  pub few_contexts : length contexts ≤ MOST_CONTEXTS
  pub contexts_rise : IsTrue (rises_from 0 contexts)
  pub contexts_are_words : IsTrue (are_words contexts)
  pub few_segments : length segments ≤ MOST_SEGMENTS
  pub segments_rise : IsTrue (rise_apart_from FIRST_ADDRESS segments)
  pub few_words : total_words segments ≤ MOST_SEGMENT_WORDS

pub bounds_of : (order : ℕ) (contexts : List ℕ) (segments : List Segment)
    → IsTrue (within_limits order contexts segments) → Bounds order contexts segments
bounds_of order contexts segments h =
    let whole = and_parts (is_order order && are_contexts contexts) (are_segments segments) h in
    let front = and_parts (is_order order) (are_contexts contexts) whole.0 in
    let contexts_are =
    and_parts (leb (length contexts) MOST_CONTEXTS && rises_from 0 contexts) (are_words contexts) front.1 in
    let contexts_front =
    and_parts (leb (length contexts) MOST_CONTEXTS) (rises_from 0 contexts) contexts_are.0 in
    let segments_are =
    and_parts (leb (length segments) MOST_SEGMENTS && rise_apart_from FIRST_ADDRESS segments)
    (leb (total_words segments) MOST_SEGMENT_WORDS) whole.1 in
    let segments_front =
    and_parts (leb (length segments) MOST_SEGMENTS) (rise_apart_from FIRST_ADDRESS segments) segments_are.0 in
    record {
      order_is = front.0;
      few_contexts = leb-true (length contexts) MOST_CONTEXTS contexts_front.0;
      contexts_rise = contexts_front.1;
      contexts_are_words = contexts_are.1;
      few_segments = leb-true (length segments) MOST_SEGMENTS segments_front.0;
      segments_rise = segments_front.1;
      few_words = leb-true (total_words segments) MOST_SEGMENT_WORDS segments_are.1;
    }

pub bounds : (c : CoreImage) → Bounds c.order c.contexts c.segments
bounds c = bounds_of c.order c.contexts c.segments c.limits

-- its order is 0 or 1
pub order_known : (c : CoreImage) → c.order ≤ 1
order_known c = leb-true c.order 1 (bounds c).order_is
