use Rattle.std.proofs.Common.{ap, ◌∙◌, sym}
use Rattle.std.specs.FinMap.{get, get-empty}
use Rattle.omi_handle.specs.Entries.{ledger_of}
use Rattle.omi_handle.specs.Ledger.{pair_cmp}
use Rattle.omi_handle.proofs.handles.Handles.find.Goals as goal

pub returns-in-None : goal.returns-in-None
returns-in-None c =
    sym (ap (λ l. get l.held (c.args.key, c.args.serial)) (sym c.self.view_is)
    ∙ ap (λ entries. get (ledger_of entries c.self.inside.made).held (c.args.key, c.args.serial)) c.in-None.is
    ∙ get-empty pair_cmp (c.args.key, c.args.serial))
