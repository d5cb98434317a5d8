use Rattle.omi_layout.specs.Valid.{IsApart}
use Rattle.omi_layout.proofs.Arenas.{next_below}
use Rattle.omi_layout.proofs.judging.judge_fields.Goals as goal

pub loop-f-preserved : goal.loop-f-preserved
loop-f-preserved c g is =
    next_below (IsApart c.args.w.now) c.loop-f.f g (c.loop-f.invariant g is) c.in_default.ensures
