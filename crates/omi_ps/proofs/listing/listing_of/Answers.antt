use Rattle.std.proofs.Common.{Ok, Err, None, sym, subst}
use Rattle.std.proofs.lemmas.Result.{err_from_is_err_and}
use Rattle.omi_walk.specs.Gives.{Looks}
use Rattle.omi_process.specs.declared.listed.Listed.TheVariants.{Contexts}
use Rattle.omi_ps.specs.Listing.{GivesSome, IsListing, Lists}
use Rattle.omi_ps.specs.declared.listing.Listing.{Listing}
use Rattle.omi_ps.proofs.Listings.{listed}
use Rattle.omi_ps.proofs.listing.listing_of.Goals as goal

pub returns-in_err-view-in-Contexts-clause-look : goal.returns-in_err-view-in-Contexts-clause-look
unfolding Looks Lists
returns-in_err-view-in-Contexts-clause-look g c =
    let s = c.args.s.now in
    let f = c.in_err-view-in-Contexts.field-0.0 in
    let p = err_from_is_err_and c.from_residual.result c.from_residual.ensures.1 in
    λ memory tells. rw (p.1, p.2)
    (subst (λ ids. GivesSome {A = Listing} (Err f) (IsListing s.layout memory ids)) (sym c.in-Contexts.is)
    (listed s.layout memory c.in-Contexts.contexts None (IsListing s.layout memory (Contexts c.in-Contexts.contexts)) (Err f) (λ look same. same) (c.in_err-view-in-Contexts.ensures.look memory tells)))

pub returns-in_ok-view-in-Contexts-clause-look : goal.returns-in_ok-view-in-Contexts-clause-look
unfolding Looks Lists
returns-in_ok-view-in-Contexts-clause-look g c =
    let s = c.args.s.now in
    let view = c.in_ok-view-in-Contexts.view in
    λ memory tells.
    subst (λ ids. IsListing s.layout memory ids (Ok (record { view = view; others = None }))) (sym c.in-Contexts.is)
    (listed s.layout memory c.in-Contexts.contexts None (IsListing s.layout memory (Contexts c.in-Contexts.contexts)) (Ok view) (λ look same. same) (c.in_ok-view-in-Contexts.ensures.look memory tells))
