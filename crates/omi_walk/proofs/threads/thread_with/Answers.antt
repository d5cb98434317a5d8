use Rattle.std.proofs.Common.{None, subst}
use Rattle.omi_handle.specs.declared.handle.Kind.TheVariants.{Thread}
use Rattle.omi_layout.specs.Valid.{IsValid}
use Rattle.omi_walk.proofs.Looked.{found_leaves}
use Rattle.omi_walk.proofs.ObjectWalks.{maybe_found, maybe_refused}
use Rattle.omi_walk.proofs.ThreadLooks.{thread_lives}
use Rattle.omi_session.proofs.Handed.{answered_is}
use Rattle.omi_walk.proofs.threads.thread_with.Goals as goal

pub returns-in-Ok-clause-met : goal.returns-in-Ok-clause-met
returns-in-Ok-clause-met g c =
    thread_lives g.C.Callbacks.told c.args.s.now c.get_thread_handle.new.s c.let_go.new.s c.args.native _
    (subst (λ w. IsValid w) c.layout-layout.ensures c.layout-layout.result.now.valid)
    c.get_thread_handle.ensures.stays c.let_go.ensures.layout c.let_go.ensures.table c.let_go.result
    c.let_go.ensures.object c.let_go.ensures.kind c.let_go.ensures.place c.let_go.ensures.name (answered_is c.in-Ok.ensures.answer)

pub returns-in-Ok-clause-leaves : goal.returns-in-Ok-clause-leaves
returns-in-Ok-clause-leaves g c =
    found_leaves g.C.Callbacks.told c.args.s.now c.get_thread_handle.new.s c.let_go.new.s Thread _ c.in-Ok.ensures.handles c.get_thread_handle.ensures.stays
    c.let_go.ensures.layout c.let_go.ensures.table c.let_go.ensures.removed c.let_go.ensures.made

-- reads: what was asked

pub returns-in-Ok-clause-reads : goal.returns-in-Ok-clause-reads
returns-in-Ok-clause-reads g c =
    maybe_found c.let_go.result c.in-Ok.ensures.answer c.let_go.ensures.object c.let_go.ensures.name c.get_thread_handle.ensures.stays.layout c.let_go.ensures.table None

pub returns-in-Err-clause-reads : goal.returns-in-Err-clause-reads
returns-in-Err-clause-reads g c =
    maybe_refused c.in-Err.ensures.answer None _ c.absent_from.ensures
