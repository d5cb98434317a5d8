use Rattle.std.proofs.Common.{ap, ◌∙◌, sym}
use Rattle.std.specs.FinMap.{get}
use Rattle.omi_handle.proofs.HeldLemmas.{any_below}
use Rattle.omi_handle.proofs.handles.Handles.made.Goals as goal

pub returns-clause-serials : goal.returns-clause-serials
returns-clause-serials c = λ key serial held.
    any_below c.self.inside.entries c.self.inside.made key serial c.self.invariant
    (λ none. held (ap (λ l. get l.held (key, serial)) (sym c.self.view_is) ∙ none))
