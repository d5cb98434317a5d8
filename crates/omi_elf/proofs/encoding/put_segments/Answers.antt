use Rattle.omi_corefile.specs.declared.segment.Segment.{Segment}
use Rattle.omi_corefile.specs.Spelling.{words_in}
use Rattle.omi_corefile.proofs.Lists.{flat_map_further}
use Rattle.omi_elf.proofs.encoding.put_segments.Goals as goal

pub loop-at-preserved : goal.loop-at-preserved
loop-at-preserved c =
    rw (c.in_ok-put_words.ensures, c.loop-at.invariant)
    (flat_map_further (λ (s : Segment). words_in c.args.order s.words) c.args.out.now.items c.args.segments.now c.loop-at.at c.get.result.now c.get.ensures)
