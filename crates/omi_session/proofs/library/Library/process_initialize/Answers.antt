use Rattle.std.proofs.Common.{◌≡◌, Err, sym, ap, subst}
use Rattle.omi_session.specs.declared.rc.Rc.TheVariants.{CallbackError}
use Rattle.omi_session.specs.Opening.{Opens}
use Rattle.omi_session.proofs.OpeningReads.{opens_as}
use Rattle.omi_session.proofs.library.Library.process_initialize.Goals as goal

pub returns-in-Ok-clause-asked : goal.returns-in-Ok-clause-asked
returns-in-Ok-clause-asked g c =
    subst (λ k. Opens g.C.Callbacks.told g.C.Callbacks.asked c.args.self k ⊥) (sym c.in_layout.ensures.table)
    (subst (λ k. Opens g.C.Callbacks.told g.C.Callbacks.asked k c.published.new.table ⊥) c.self.view_is
    (opens_as (λ e. (let is = e in cc)) (λ never. absurd never) c.in-Ok.ensures.asked))

pub returns-in-Err-clause-asked : goal.returns-in-Err-clause-asked
returns-in-Err-clause-asked g c =
    subst (λ k. Opens g.C.Callbacks.told g.C.Callbacks.asked k c.published.new.table (c.in-Err.rc ≡ CallbackError)) c.self.view_is
    (opens_as (λ e. (let is = e in cc)) (λ e. ap Err e) c.in-Err.ensures.asked)
