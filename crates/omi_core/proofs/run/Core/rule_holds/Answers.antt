use Rattle.std.proofs.Common.{subst}
use Rattle.omi_core.specs.Runs.{Run}
use Rattle.omi_core.specs.RunSteps.{RuleHolds}
use Rattle.omi_core.proofs.run.Core.rule_holds.Goals as goal

pub returns : goal.returns
returns c =
    subst (λ (z : Run). RuleHolds z) c.self.view_is (c.self.invariant.state, c.self.invariant.rule)
