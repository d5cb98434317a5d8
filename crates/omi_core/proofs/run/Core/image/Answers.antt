use Rattle.std.proofs.Common.{subst}
use Rattle.omi_core.specs.Runs.{Run}
use Rattle.omi_core.specs.RunSteps.{ShowsState}
use Rattle.omi_core.proofs.Stepping.{shows_state}
use Rattle.omi_core.proofs.run.Core.image.Goals as goal

pub returns-clause-shown : goal.returns-clause-shown
returns-clause-shown c = subst (λ (z : Run). ShowsState z) c.self.view_is (shows_state _ c.self.invariant)
