use Rattle.std.proofs.Common.{◌≡◌, false, sym, ◌∙◌}
use Rattle.omi_layout.specs.Valid.{overlap}
use Rattle.omi_layout.proofs.Arenas.{next_below}
use Rattle.omi_layout.proofs.judging.first_overlap.Goals as goal

pub loop-g-preserved : goal.loop-g-preserved
loop-g-preserved c h after =
    next_below (λ g. overlap c.args.w.now c.args.f g ≡ false) c.loop-g.g h (c.loop-g.invariant h after)
    (sym c.overlap.ensures ∙ c.if-overlap.false)
