use Rattle.std.proofs.Common.{◌<◌, ◌^◌, take, arith}
use Rattle.omi_corefile.proofs.Lists.{take_further, are_words-push}
use Rattle.omi_corefile.proofs.making.numbers_fit.Goals as goal

pub loop-at-preserved : goal.loop-at-preserved
loop-at-preserved c =
    let fits : c.get-number.result.now < 2 ^ 64 = omega arith in
    rw (take_further c.args.list.now c.loop-at.at c.get-number.result.now c.get-number.ensures)
    (are_words-push (take c.loop-at.at c.args.list.now) c.get-number.result.now c.loop-at.invariant fits)
