use Rattle.std.proofs.Common.{ap, ◌∙◌, sym}
use Rattle.std.specs.FinMap.{get, insert}
use Rattle.omi_handle.specs.Entries.{ledger_of}
use Rattle.omi_handle.proofs.HeldLemmas.{held_more, found_inserted, kept_inserted, vacant_held}
use Rattle.omi_handle.proofs.handles.Handles.make.Goals as goal

pub returns-clause-added : goal.returns-clause-added
returns-clause-added c =
    held_more c.in-Some.entries _ _ _ c.in_ok-key.ensures.was_vacant c.in_ok-key.ensures.updates
    ∙ ap (λ l. insert l.held (c.in_ok-key.key, c.self.inside.made) c.args.h) (ap (λ entries. ledger_of entries c.self.inside.made) (sym c.in-Some.is) ∙ c.self.view_is)

pub returns-clause-unheld : goal.returns-clause-unheld
returns-clause-unheld c =
    ap (λ l. get l.held (c.in_ok-key.key, c.self.inside.made)) (sym (ap (λ entries. ledger_of entries c.self.inside.made) (sym c.in-Some.is) ∙ c.self.view_is))
    ∙ vacant_held c.in-Some.entries _ _ c.in_ok-key.ensures.was_vacant

pub returns-clause-found : goal.returns-clause-found
returns-clause-found c =
    ap (λ m. get m (c.in_ok-key.key, c.self.inside.made))
    (held_more c.in-Some.entries _ _ _ c.in_ok-key.ensures.was_vacant c.in_ok-key.ensures.updates)
    ∙ found_inserted _ _ _

pub returns-clause-kept : goal.returns-clause-kept
returns-clause-kept c = λ pair held is.
    ap (λ m. get m pair)
    (held_more c.in-Some.entries _ _ _ c.in_ok-key.ensures.was_vacant c.in_ok-key.ensures.updates)
    ∙ kept_inserted _ _ _ (vacant_held c.in-Some.entries _ _ c.in_ok-key.ensures.was_vacant) pair held
    (ap (λ l. get l.held pair) (ap (λ entries. ledger_of entries c.self.inside.made) (sym c.in-Some.is) ∙ c.self.view_is) ∙ is)
