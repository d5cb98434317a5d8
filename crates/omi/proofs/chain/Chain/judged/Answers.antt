use Rattle.std.proofs.Common.{Ok, ◌∙◌, ap, subst, arith}
use Rattle.std.specs.FinMap.{remove}
use Rattle.omi_session.specs.Made.{Makes}
use Rattle.omi_walk.proofs.Names.{restored}
use Rattle.omi.proofs.chain.Chain.judged.Goals as goal

pub returns-in-Some-clause-handles : goal.returns-in-Some-clause-handles
returns-in-Some-clause-handles g c = λ kind before makes.
    let made : Makes kind before c.args.s.now.handles (Ok c.in-Ok.pair) =
    subst (λ r. Makes kind before c.args.s.now.handles r) c.in-Ok.is makes in
    record {
      held = c.release.ensures.removed ∙ ap (λ held. remove held c.in-Ok.pair) made.adds.added ∙ restored before.held c.in-Ok.pair made.object made.adds.unheld;
      made = omega (arith, c.release.ensures.made, made.adds.counted);
    }
