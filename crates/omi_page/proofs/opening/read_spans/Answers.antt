use Rattle.std.proofs.Common.{◌+◌, ◌*◌, length, rules, arith, ap, ◌∙◌, subst, sym}
use Rattle.std.proofs.lemmas.List.{length_push}
use Rattle.std.proofs.lemmas.Result.{err_from_is_err_and}
use Rattle.omi_corefile.specs.Refusals.{segment_at, left_after, segments_at}
use Rattle.omi_corefile.proofs.Rows.{row_ends}
use Rattle.omi_read.specs.Holding.{Holds}
use Rattle.omi_page.specs.Bounds.{AreInOrder, EndWithin}
use Rattle.omi_page.specs.Spans.{segments_there}
use Rattle.omi_page.proofs.Segments.{segment_more, segments_fault, ends_push}
use Rattle.omi_page.proofs.InOrder.{EndBelow, below_push, order_push}
use Rattle.omi_page.proofs.opening.read_spans.Goals as goal

pub returns-in_err-span-clause-read : goal.returns-in_err-span-clause-read
returns-in_err-span-clause-read g c = λ bytes told.
    let now : Holds (g.F.Files.told c.loop.files c.args.name.now) bytes =
    ap (λ t. t c.args.name.now) c.loop.invariant.same ∙ told in
    let p = err_from_is_err_and c.from_residual.result c.from_residual.ensures.1 in
    rw (p.1, p.2)
    (segments_fault c.in_err-span.field-0.0 (segments_there c.args.order bytes c.loop.spans) c.args.len c.args.order c.args.count c.loop.counter (c.loop.least, c.loop.room) _ _ c.loop-test.true (c.in_err-span.ensures.read bytes now) (c.loop.invariant.read bytes told))

pub loop-preserved : goal.loop-preserved
loop-preserved g c = record {
  read = λ bytes told.
      let now : Holds (g.F.Files.told c.loop.files c.args.name.now) bytes =
      ap (λ t. t c.args.name.now) c.loop.invariant.same ∙ told in
      rw c.in_ok-push.ensures.added
      (segment_more c.args.order bytes c.loop.spans c.in_ok-span.span c.args.len c.args.count c.loop.counter c.loop.least c.loop.room c.loop.at _ c.loop-test.true (c.in_ok-span.ensures.read bytes now) (c.loop.invariant.read bytes told));
  room_is_left = omega arith;
  within = search rules;
  ends = subst (EndWithin c.args.len) (sym c.in_ok-push.ensures.added) (ends_push c.args.len c.loop.spans c.in_ok-span.span c.loop.invariant.ends c.in_ok-span.ensures.end);
  ordered = subst AreInOrder (sym c.in_ok-push.ensures.added)
      (order_push c.loop.spans c.in_ok-span.span c.loop.invariant.ordered
      (λ k s is. omega (arith, c.loop.invariant.below k s is, c.in_ok-span.ensures.from)));
  below = subst (EndBelow (c.in_ok-span.span.start + 8 * c.in_ok-span.span.count + 1)) (sym c.in_ok-push.ensures.added)
      (below_push c.loop.least _ c.loop.spans c.in_ok-span.span c.loop.invariant.below (omega (arith, c.in_ok-span.ensures.from)) (omega arith));
  few = omega (arith, ap length c.in_ok-push.ensures.added, length_push c.loop.spans c.in_ok-span.span, c.loop.invariant.few);
  same = search rules;
  later = omega arith;
  writes = search rules;
}

pub returns-clause-read : goal.returns-clause-read
returns-clause-read g c = λ bytes told.
    row_ends (segment_at c.args.len c.args.order) left_after
    (segments_there c.args.order bytes c.loop.spans) c.args.count c.loop.counter (c.loop.least, c.loop.room) _
    (segments_at c.args.len c.args.order c.args.count _) c.loop-test.false (c.loop.invariant.read bytes told)
