use Rattle.std.proofs.Common.{subst}
use Rattle.omi_core.specs.Histories.{HasHistory}
use Rattle.omi_core.specs.Runs.{Run}
use Rattle.omi_core.proofs.Histories.{history}
use Rattle.omi_core.proofs.run.Core.made.Goals as goal

pub returns-clause-history : goal.returns-clause-history
returns-clause-history c = subst (λ (z : Run). HasHistory z) c.self.view_is (history _ c.self.invariant)
