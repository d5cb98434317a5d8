use Rattle.std.proofs.Common.{◌≡◌, ap, ◌∙◌, arith}
use Rattle.std.specs.Prelude.{Ok}
use Rattle.omi_session.specs.Handles.{held_cmp, both_cmp}
use Rattle.omi_session.proofs.handled.compare.Goals as goal

pub returns : goal.returns
returns g c =
    let is : c.then.result ≡ held_cmp c.in_ok-first.first c.in_ok-second.second = grind arith in
    ap Ok is ∙ (λ i. both_cmp (c.in_ok-first.ensures.value i) (c.in_ok-second.ensures.value i))
