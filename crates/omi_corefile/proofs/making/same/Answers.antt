use Rattle.std.proofs.Common.{◌<◌, ◌^◌, sym, arith}
use Rattle.omi_corefile.proofs.Lists.{take_further, are_words-push}
use Rattle.omi_corefile.proofs.making.same.Goals as goal

pub loop-at-preserved : goal.loop-at-preserved
loop-at-preserved c =
    let fits : c.get-number.result.now < 2 ^ 64 = omega arith in
    record {
      value = rw (c.in_ok-push.ensures.added, c.loop-at.invariant.value) (sym (take_further _ _ _ c.get-number.ensures));
      fit = rw c.in_ok-push.ensures.added (are_words-push c.loop-at.copy c.get-number.result.now c.loop-at.invariant.fit fits);
    }
