use Rattle.std.proofs.Common.{arith}
use Rattle.omi_corefile.proofs.Lists.{total_words_further, total_words_within}
use Rattle.omi_elf.proofs.HeadersPut.{headers_further}
use Rattle.omi_elf.proofs.encoding.put_segment_headers.Goals as goal

pub overflow_mul-size : goal.overflow_mul-size
overflow_mul-size c =
    let within = total_words_within c.args.segments.now c.loop-at.at c.get-segment.result.now c.get-segment.ensures in
    omega arith

pub overflow_add-place : goal.overflow_add-place
overflow_add-place c =
    let within = total_words_within c.args.segments.now c.loop-at.at c.get-segment.result.now c.get-segment.ensures in
    omega (arith, c.loop-at.invariant.where_)

pub loop-at-preserved : goal.loop-at-preserved
loop-at-preserved c =
    let further = total_words_further c.args.segments.now c.loop-at.at c.get-segment.result.now c.get-segment.ensures in
    record {
      put = rw (c.in_ok-put_program_header.ensures, c.len.ensures)
          (headers_further c.args.order c.loop-at.place c.loop-at.out.items c.args.segments.now c.loop-at.at c.get-segment.result.now _ c.get-segment.ensures c.loop-at.invariant.put);
      where_ = omega (arith, c.loop-at.invariant.where_, further, c.len.ensures);
    }
