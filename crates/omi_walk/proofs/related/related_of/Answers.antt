use Rattle.std.proofs.Common.{◌∙◌, ap, Option, subst}
use Rattle.std.specs.FinMap.{get}
use Rattle.std.specs.Prelude.{Ok, Err}
use Rattle.omi_session.specs.Inquiry.{object_of, related}
use Rattle.omi_session.specs.Made.{Answered}
use Rattle.omi_walk.specs.declared.met.Met.{Met}
use Rattle.omi_walk.specs.Fault.{absent}
use Rattle.omi_walk.specs.Relations.{pair_of, kind_from, kind_to, field_of}
use Rattle.omi_handle.specs.declared.handle.Held.{Held}
use Rattle.omi_walk.proofs.AskedObjects.{inquiry_is}
use Rattle.omi_walk.proofs.Looked.{found_leaves, found_met, optional_lives}
use Rattle.omi_walk.proofs.ObjectWalks.{maybe_found, maybe_refused}
use Rattle.omi_session.proofs.Handed.{answered_is}
use Rattle.omi_walk.proofs.related.related_of.Goals as goal

pub returns-in-Ok-clause-met : goal.returns-in-Ok-clause-met
returns-in-Ok-clause-met g c =
    let w = c.args.s.now.layout in
    let found = get c.args.s.now.handles.held (pair_of c.args.relation) in
    found_met g.C.Callbacks.told c.args.s.now c.made.new.s c.let_go.new.s
    (kind_to c.args.relation) _ c.in-Ok.ensures.handles c.made.ensures.stays
    c.let_go.ensures.layout c.let_go.ensures.table c.let_go.result
    (related w (kind_from c.args.relation) found (kind_to c.args.relation) (field_of c.args.relation))
    c.let_go.ensures.object
    (c.let_go.ensures.kind ∙ c.kind.ensures) c.let_go.ensures.place c.let_go.ensures.name (answered_is c.in-Ok.ensures.answer)
    (λ memory. optional_lives w memory (object_of w (kind_from c.args.relation) found) (kind_to c.args.relation) (field_of c.args.relation) (λ x. x.addr))

pub returns-in-Ok-clause-leaves : goal.returns-in-Ok-clause-leaves
returns-in-Ok-clause-leaves g c =
    found_leaves g.C.Callbacks.told c.args.s.now c.made.new.s c.let_go.new.s
    (kind_to c.args.relation) _ c.in-Ok.ensures.handles c.made.ensures.stays
    c.let_go.ensures.layout c.let_go.ensures.table c.let_go.ensures.removed c.let_go.ensures.made

-- reads: what was asked

pub returns-in-Ok-clause-reads : goal.returns-in-Ok-clause-reads
returns-in-Ok-clause-reads g c =
    let found = get c.args.s.now.handles.held (pair_of c.args.relation) in
    let answered =
    subst (Answered g.C.Callbacks.told g.C.Callbacks.asked c.args.s.now c.made.new.s (Ok c.in-Ok.pair))
    (inquiry_is c.args.s.now.layout c.args.relation found) c.in-Ok.ensures.answer in
    maybe_found c.let_go.result answered c.let_go.ensures.object c.let_go.ensures.name c.made.ensures.stays.layout c.let_go.ensures.table found

pub returns-in-Err-clause-reads : goal.returns-in-Err-clause-reads
returns-in-Err-clause-reads g c =
    let found = get c.args.s.now.handles.held (pair_of c.args.relation) in
    let here =
    ap (λ p. get c.made.new.s.handles.held p) c.pair.ensures
    ∙ ap (λ held. get held (pair_of c.args.relation)) c.in-Err.ensures.handles.keeps.held in
    let answered =
    subst (Answered g.C.Callbacks.told g.C.Callbacks.asked c.args.s.now c.made.new.s (Err c.in-Err.rc))
    (inquiry_is c.args.s.now.layout c.args.relation found) c.in-Err.ensures.answer in
    maybe_refused answered found _ (c.absent.ensures ∙ ap (λ (o : Option Held). absent {A = Met} o c.in-Err.rc) here)
