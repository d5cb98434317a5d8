use Rattle.std.proofs.Common.{ap, arith}
use Rattle.std.proofs.lemmas.List.{take_all}
use Rattle.std.proofs.lemmas.Option.{slice_get_within}
use Rattle.omi_corefile.specs.Limits.{total_words}
use Rattle.omi_corefile.proofs.Bounds.{bounds}
use Rattle.omi_corefile.proofs.Lengths.{length-spelling_of}
use Rattle.omi_corefile.proofs.Lists.{total_words_further, total_words_within}
use Rattle.omi_corefile.proofs.encoding.len_of.Goals as goal

pub overflow_mul-len-in-loop-at : goal.overflow_mul-len-in-loop-at
overflow_mul-len-in-loop-at c =
    let b = bounds c.args.c.now in
    let within = total_words_within c.args.c.now.segments c.loop-at.at c.get.result.now c.get.ensures in
    omega arith

pub overflow_add-len-in-loop-at : goal.overflow_add-len-in-loop-at
overflow_add-len-in-loop-at c =
    let b = bounds c.args.c.now in
    let within = total_words_within c.args.c.now.segments c.loop-at.at c.get.result.now c.get.ensures in
    omega arith

pub overflow_add-len-in-loop-at-2 : goal.overflow_add-len-in-loop-at-2
overflow_add-len-in-loop-at-2 c =
    let b = bounds c.args.c.now in
    let within = total_words_within c.args.c.now.segments c.loop-at.at c.get.result.now c.get.ensures in
    let here = slice_get_within c.args.c.now.segments c.loop-at.at c.get.result.now c.get.ensures in
    omega (arith, c.loop-at.invariant)

pub loop-at-preserved : goal.loop-at-preserved
loop-at-preserved c =
    let further = total_words_further c.args.c.now.segments c.loop-at.at c.get.result.now c.get.ensures in
    omega (arith, c.loop-at.invariant)

pub returns : goal.returns
returns c =
    let all =
    ap total_words
    (take_all c.loop-at.at c.args.c.now.segments (omega (arith, c.loop-at-test.false, c.len-at-end.ensures))) in
    omega
    (arith, all, c.loop-at.invariant, length-spelling_of c.args.c.now.order c.args.c.now.contexts c.args.c.now.segments)
