use Rattle.std.proofs.Common.{rules, ◌+◌, arith}
use Rattle.omi_outside.proofs.Pieces.{held_more, next_piece}
use Rattle.omi_outside.proofs.whole.write_whole.Goals as goal

pub loop-at-preserved : goal.loop-at-preserved
loop-at-preserved g c = record {
  so_far = held_more _ _ _ c.args.bytes.now c.loop-at.at (c.loop-at.at + c.min.result) (omega arith) c.loop-at.invariant.so_far c.in_ok-append.ensures.added;
  others = search rules;
  later = omega arith;
  reads = search rules;
  within = omega arith;
  pieces = next_piece _ _ _ (omega arith) c.loop-at.invariant.pieces c.min.ensures;
}
