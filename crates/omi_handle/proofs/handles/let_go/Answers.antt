use Rattle.std.proofs.Common.{◌∙◌, sym}
use Rattle.omi_handle.proofs.HeldLemmas.{key_of, held_released, absent_removed}
use Rattle.omi_handle.proofs.handles.let_go.Goals as goal

pub remove-requires : goal.remove-requires
remove-requires c =
    key_of c.args.entries.now c.args.key c.args.serial c.in-Some.field-0
    (sym c.held_under.ensures ∙ c.in-Some.is)

pub returns-in-Some-clause-removed : goal.returns-in-Some-clause-removed
returns-in-Some-clause-removed c =
    held_released c.args.entries.now _ _ _ _
    (sym c.held_under.ensures ∙ c.in-Some.is) c.remove.ensures.updates

pub returns-in-None-clause-removed : goal.returns-in-None-clause-removed
returns-in-None-clause-removed c = sym (absent_removed _ _ (sym c.held_under.ensures ∙ c.in-None.is))
