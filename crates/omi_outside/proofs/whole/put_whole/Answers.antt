use Rattle.std.proofs.Common.{rules, ◌+◌, arith}
use Rattle.omi_outside.proofs.Pieces.{put_more, put_none, next_piece}
use Rattle.omi_outside.proofs.whole.put_whole.Goals as goal

pub loop-at-init : goal.loop-at-init
loop-at-init g c = record { so_far = put_none _; faults = search rules; wants = search rules; within = omega arith; pieces = (0, omega arith) }

pub loop-at-preserved : goal.loop-at-preserved
loop-at-preserved g c = record {
  so_far = put_more _ _ _ c.args.bytes.now c.loop-at.at (c.loop-at.at + c.min.result) (omega arith) c.loop-at.invariant.so_far c.in_ok-put.ensures.added;
  faults = search rules;
  wants = search rules;
  within = omega arith;
  pieces = next_piece _ _ _ (omega arith) c.loop-at.invariant.pieces c.min.ensures;
}
