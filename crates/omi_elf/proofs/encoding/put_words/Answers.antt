use Rattle.omi_corefile.specs.ByteOrder.{word_bytes}
use Rattle.omi_corefile.proofs.Lists.{flat_map_further}
use Rattle.omi_elf.proofs.encoding.put_words.Goals as goal

pub loop-at-preserved : goal.loop-at-preserved
loop-at-preserved c =
    rw (c.in_ok-put64.ensures, c.loop-at.invariant)
    (flat_map_further (word_bytes c.args.order) c.args.out.now.items c.args.words.now c.loop-at.at c.get.result.now c.get.ensures)
