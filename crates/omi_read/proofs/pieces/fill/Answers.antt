use Rattle.std.proofs.Common.{rules, arith, ap, ◌∙◌}
use Rattle.omi_read.specs.Holding.{Holds}
use Rattle.omi_read.proofs.Longer.{read_on}
use Rattle.omi_read.proofs.pieces.fill.Goals as goal

pub loop-done-preserved : goal.loop-done-preserved
loop-done-preserved g c = record {
  so_far = λ bytes told.
      let now : Holds (g.F.Files.told c.loop-done.files c.args.name.now) bytes =
      ap (λ t. t c.args.name.now) c.loop-done.invariant.same ∙ told in
      read_on bytes _ _ _ c.args.at c.loop-done.done c.in_ok-count.count (omega arith) c.in_ok-count.ensures.count.1 (c.loop-done.invariant.so_far bytes told) (c.in_ok-count.ensures.bytes bytes now).1;
  as_long = search rules;
  within = search rules;
  same = search rules;
  later = omega arith;
  writes = search rules;
}
