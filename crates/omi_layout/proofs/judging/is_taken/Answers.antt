use Rattle.std.proofs.Common.{arith}
use Rattle.omi_layout.proofs.Arenas.{small, few, ends, placed, counted}
use Rattle.omi_layout.proofs.judging.is_taken.Goals as goal

pub extent-requires-clause-small : goal.extent-requires-clause-small
extent-requires-clause-small c = small c.args.w.now c.requires.inside c.args.q c.requires.is

pub shares-requires-clause-first : goal.shares-requires-clause-first
shares-requires-clause-first c =
    let w = c.args.w.now in
    let low = ends w c.args.q (placed w c.args.q (c.requires.below c.args.q c.requires.is c.if-q-p.true)) in
    omega (arith, low, c.place.ensures, c.extent.ensures)

pub extent-requires-clause-few : goal.extent-requires-clause-few
extent-requires-clause-few c =
    let w = c.args.w.now in
    let q = c.args.q in
    few w q c.requires.is (counted w q (c.requires.below q c.requires.is c.if-q-p.true))
    (λ r is order. c.requires.below r is (omega arith))
