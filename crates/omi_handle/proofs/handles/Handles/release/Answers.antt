use Rattle.std.proofs.Common.{ap, subst, ◌∙◌, sym, is_some}
use Rattle.std.specs.FinMap.{get, get-empty, remove}
use Rattle.omi_handle.specs.Entries.{ledger_of, SerialsBelow}
use Rattle.omi_handle.specs.Ledger.{pair_cmp}
use Rattle.omi_handle.proofs.HeldLemmas.{gone_removed, others_removed, absent_removed}
use Rattle.omi_handle.proofs.handles.Handles.release.Goals as goal

pub returns-in_default-clause-answer : goal.returns-in_default-clause-answer
returns-in_default-clause-answer c =
    sym (ap (λ l. is_some (get l.held (c.args.key, c.args.serial))) (sym c.self.view_is)
    ∙ ap (λ entries. is_some (get (ledger_of entries c.self.inside.made).held (c.args.key, c.args.serial))) c.in_default.is
    ∙ ap is_some (get-empty pair_cmp (c.args.key, c.args.serial)))

pub returns-in_default-clause-removed : goal.returns-in_default-clause-removed
returns-in_default-clause-removed c =
    ap (λ l. l.held) c.self.view_is
    ∙ sym (absent_removed _ _ (ap (λ l. get l.held (c.args.key, c.args.serial)) (sym c.self.view_is)
    ∙ ap (λ entries. get (ledger_of entries c.self.inside.made).held (c.args.key, c.args.serial)) c.in_default.is
    ∙ get-empty pair_cmp (c.args.key, c.args.serial)))

pub returns-in_default-clause-gone : goal.returns-in_default-clause-gone
returns-in_default-clause-gone c =
    ap (λ entries. get (ledger_of entries c.self.inside.made).held (c.args.key, c.args.serial)) c.in_default.is
    ∙ get-empty pair_cmp (c.args.key, c.args.serial)

pub invariant_of-self-2 : goal.invariant_of-self-2
invariant_of-self-2 c =
    c.let_go.ensures.below c.self.inside.made
    (subst (λ entries. SerialsBelow entries c.self.inside.made) c.in-Some.is c.self.invariant)

pub returns-clause-answer : goal.returns-clause-answer
returns-clause-answer c =
    c.let_go.ensures.answer
    ∙ ap (λ l. is_some (get l.held (c.args.key, c.args.serial)))
    (ap (λ entries. ledger_of entries c.self.inside.made) (sym c.in-Some.is) ∙ c.self.view_is)

pub returns-clause-removed : goal.returns-clause-removed
returns-clause-removed c =
    c.let_go.ensures.removed
    ∙ ap (λ l. remove l.held (c.args.key, c.args.serial))
    (ap (λ entries. ledger_of entries c.self.inside.made) (sym c.in-Some.is) ∙ c.self.view_is)

pub returns-clause-gone : goal.returns-clause-gone
returns-clause-gone c =
    ap (λ m. get m (c.args.key, c.args.serial)) c.let_go.ensures.removed ∙ gone_removed _ _

pub returns-clause-others : goal.returns-clause-others
returns-clause-others c = λ pair apart.
    ap (λ m. get m pair) c.let_go.ensures.removed ∙ others_removed _ _ pair apart
    ∙ ap (λ l. get l.held pair)
    (ap (λ entries. ledger_of entries c.self.inside.made) (sym c.in-Some.is) ∙ c.self.view_is)
