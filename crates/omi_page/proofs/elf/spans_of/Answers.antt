use Rattle.std.proofs.Common.{ℕ, ◌+◌, ◌∷◌, ◌++◌, [], sym, ap, subst, ◌∙◌, arith, length, take, map, get_or}
use Rattle.std.proofs.lemmas.List.{length_push, map_push, take_more, take_all}
use Rattle.std.proofs.lemmas.List.Elements.{All-get_or}
use Rattle.omi_elf.proofs.NoteSegments.{no_header}
use Rattle.omi_page.specs.Bounds.{EndWithin, IsSpan, segment_bounds, span_bounds}
use Rattle.omi_page.proofs.Segments.{ends_push}
use Rattle.omi_page.proofs.InOrder.{spans_in_order}
use Rattle.omi_page.proofs.elf.spans_of.Goals as goal

pub invariant_of-span : goal.invariant_of-span
invariant_of-span c =
    let fit = All-get_or (IsSpan c.args.len) c.args.segments.now c.loop-segment.segment-index no_header c.loop-segment-test.true c.requires.fit in
    record {
      aligned = fit.aligned;
      low = fit.low;
      few = omega (arith, fit.few, c.word_count-count.ensures);
      fits = omega (arith, fit.within, c.word_count-count.ensures);
    }

pub loop-segment-preserved : goal.loop-segment-preserved
loop-segment-preserved c =
    let hs = c.args.segments.now in let i = c.loop-segment.segment-index in
    let h = get_or hs i no_header in
    let fit = All-get_or (IsSpan c.args.len) hs i no_header c.loop-segment-test.true c.requires.fit in
    record {
      bounds = rw c.in_ok-push.ensures.added
          (map_push span_bounds c.loop-segment.spans _
          ∙ (λ j. c.loop-segment.invariant.bounds j ++ (h.p_vaddr, c.word_count-count.ensures j, h.p_offset) ∷ [])
          ∙ sym (ap (map segment_bounds) (take_more hs i no_header c.loop-segment-test.true) ∙ map_push segment_bounds (take i hs) h));
      ends = subst (EndWithin c.args.len) (sym c.in_ok-push.ensures.added)
          (ends_push c.args.len c.loop-segment.spans _ c.loop-segment.invariant.ends (omega (arith, fit.within, c.word_count-count.ensures)));
      few = ap length c.in_ok-push.ensures.added ∙ length_push c.loop-segment.spans _ ∙ ap (λ (n : ℕ). n + 1) c.loop-segment.invariant.few;
    }

pub returns-clause-bounds : goal.returns-clause-bounds
returns-clause-bounds c =
    c.loop-segment.invariant.bounds
    ∙ ap (map segment_bounds) (take_all c.loop-segment.segment-index c.args.segments.now c.loop-segment-test.false)

pub returns-clause-ordered : goal.returns-clause-ordered
returns-clause-ordered c =
    spans_in_order c.args.segments.now c.loop-segment.spans
    (c.loop-segment.invariant.bounds
    ∙ ap (map segment_bounds) (take_all c.loop-segment.segment-index c.args.segments.now c.loop-segment-test.false))
    c.requires.apart
