use Rattle.std.proofs.Common.{◌∙◌, ap, refl}
use Rattle.std.specs.FinMap.{get}
use Rattle.std.specs.Prelude.{Err}
use Rattle.omi_handle.specs.declared.handle.Kind.TheVariants.{Thread}
use Rattle.omi_session.specs.Made.{region_pair}
use Rattle.omi_walk.specs.Asking.{of_member}
use Rattle.omi_walk.specs.Fault.{member_fault}
use Rattle.omi_walk.proofs.Looked.{found_leaves}
use Rattle.omi_walk.proofs.ObjectWalks.{object_found, object_refused}
use Rattle.omi_walk.proofs.members.thread_of.Goals as goal

pub returns-in-Ok-clause-leaves : goal.returns-in-Ok-clause-leaves
returns-in-Ok-clause-leaves g c =
    found_leaves g.C.Callbacks.told c.args.s.now c.get_thread_in_parallel.new.s c.let_go.new.s Thread _ c.in-Ok.ensures.handles c.get_thread_in_parallel.ensures.stays c.let_go.ensures.layout c.let_go.ensures.table c.let_go.ensures.removed c.let_go.ensures.made

pub returns-in-Ok-clause-reads : goal.returns-in-Ok-clause-reads
returns-in-Ok-clause-reads g c =
    object_found c.let_go.result c.in-Ok.ensures.answer c.let_go.ensures.object c.let_go.ensures.name c.get_thread_in_parallel.ensures.stays.layout c.let_go.ensures.table (of_member (get c.args.s.now.handles.held (region_pair c.args.r))) refl refl

pub returns-in-Err-clause-reads : goal.returns-in-Err-clause-reads
returns-in-Err-clause-reads g c =
    object_refused c.in-Err.ensures.answer (of_member (get c.args.s.now.handles.held (region_pair c.args.r))) c.member_fault.result refl refl (ap Err (c.member_fault.ensures ∙ ap (λ held. member_fault (get held (region_pair c.args.r)) c.in-Err.rc) c.in-Err.ensures.handles.keeps.held))
