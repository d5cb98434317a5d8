use Rattle.omi_corefile.specs.Spelling.{segment_bytes}
use Rattle.omi_corefile.proofs.Lists.{flat_map_further}
use Rattle.omi_corefile.proofs.encoding.put_segments.Goals as goal

pub loop-at-preserved : goal.loop-at-preserved
loop-at-preserved c =
    rw (c.in_ok-put_segment.ensures, c.loop-at.invariant)
    (flat_map_further (segment_bytes c.args.order) c.args.out.now.items c.args.list.now c.loop-at.at c.get.result.now c.get.ensures)
