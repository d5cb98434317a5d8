use Rattle.std.proofs.Common.{Ok, Err, length, ap, sym, ◌∙◌, arith}
use Rattle.std.proofs.lemmas.Result.{err_from_is_err_and}
use Rattle.omi_rep.specs.LookView.{look_view}
use Rattle.omi_walk.proofs.Steps.{looks_before}
use Rattle.omi_walk.specs.Gives.{Looks}
use Rattle.omi_ps.specs.Listing.{Lists}
use Rattle.omi_ps.proofs.FewContexts.{few_contexts}
use Rattle.omi_ps.proofs.Listings.{listed_among, unread}
use Rattle.omi_ps.proofs.ThreadWords.{stays}
use Rattle.omi_ps.proofs.listing.listing_of_threads.Goals as goal

pub returns-in_err-recorded-clause-look : goal.returns-in_err-recorded-clause-look
unfolding Looks Lists
returns-in_err-recorded-clause-look g c =
    let p = err_from_is_err_and c.from_residual.result c.from_residual.ensures.1 in
    λ memory tells. rw (p.1, p.2)
    (unread c.args.s.now.layout memory c.args.threads c.in_err-recorded.field-0.0 (c.in_err-recorded.ensures.look memory tells))

pub returns-in_err-found-clause-look : goal.returns-in_err-found-clause-look
unfolding Lists
returns-in_err-found-clause-look g c =
    let p = err_from_is_err_and c.from_residual-in_err-found.result c.from_residual-in_err-found.ensures.1 in
    λ memory tells. rw (p.1, p.2) tt

pub walk-requires-clause-few : goal.walk-requires-clause-few
walk-requires-clause-few g c =
    let few = few_contexts c.args.threads c.as_slice.result.now c.in_ok-found.found.contexts c.in_ok-found.found.others c.in_ok-found.ensures in
    omega (arith, c.in_ok-recorded.ensures.few, ap length c.as_slice.ensures, few)

pub returns-in_err-view-clause-look : goal.returns-in_err-view-clause-look
unfolding Looks Lists
returns-in_err-view-clause-look g c =
    let told = g.C.Callbacks.told in
    let s = c.args.s.now in
    let t = c.recorded_ids.new.s in
    let f = c.in_err-view.field-0.0 in
    let contexts = c.in_ok-found.found.contexts in
    let p = err_from_is_err_and c.from_residual-in_err-view.result c.from_residual-in_err-view.ensures.1 in
    λ memory tells. rw (p.1, p.2)
    (listed_among s.layout memory c.args.threads c.as_slice.result.now contexts c.in_ok-found.found.others (Err f)
    (c.in_ok-recorded.ensures.look memory tells ∙ ap Ok (sym c.as_slice.ensures)) c.in_ok-found.ensures
    (looks_before told s t (Err f) (λ w words. look_view w words contexts) (stays c.recorded_ids.ensures.same) c.in_err-view.ensures.look memory tells))

pub returns-clause-look : goal.returns-clause-look
unfolding Looks Lists
returns-clause-look g c =
    let told = g.C.Callbacks.told in
    let s = c.args.s.now in
    let t = c.recorded_ids.new.s in
    let view = c.in_ok-view.view in
    let contexts = c.in_ok-found.found.contexts in
    λ memory tells.
    listed_among s.layout memory c.args.threads c.as_slice.result.now contexts c.in_ok-found.found.others (Ok view)
    (c.in_ok-recorded.ensures.look memory tells ∙ ap Ok (sym c.as_slice.ensures)) c.in_ok-found.ensures
    (looks_before told s t (Ok view) (λ w words. look_view w words contexts) (stays c.recorded_ids.ensures.same) c.in_ok-view.ensures.look memory tells)
