use Rattle.std.proofs.Common.{◌≡◌, List, Option, ◌∙◌, ap, refl, ℕ}
use Rattle.std.specs.Prelude.{Ok, Err}
use Rattle.std.specs.FinMap.{get}
use Rattle.omi_handle.specs.declared.handle.Held.{Held}
use Rattle.omi_handle.specs.declared.handle.Kind.TheVariants.{Region, Task}
use Rattle.omi_layout.specs.declared.field.Field.TheVariants.{TaskRegion}
use Rattle.omi_word.specs.Words.{Words}
use Rattle.omi_session.specs.Inquiry.{object_of, unchanged}
use Rattle.omi_session.specs.Made.{task_pair}
use Rattle.omi_session.specs.Reads.{answer_on}
use Rattle.omi_ask.specs.Regions.{region_of_task}
use Rattle.omi_walk.specs.Fault.{walked, fault_of}
use Rattle.omi_walk.proofs.Looked.{followed_lives, found_leaves, found_met}
use Rattle.omi_walk.proofs.ObjectWalks.{object_found, object_refused}
use Rattle.omi_session.proofs.Handed.{answered_is}
use Rattle.omi_walk.proofs.related.region_of.Goals as goal

pub returns-in-Ok-clause-met : goal.returns-in-Ok-clause-met
unfolding region_of_task
returns-in-Ok-clause-met g c =
    found_met g.C.Callbacks.told c.args.s.now c.get_task_parallel_handle.new.s c.let_go.new.s Region _ c.in-Ok.ensures.handles c.get_task_parallel_handle.ensures.stays
    c.let_go.ensures.layout c.let_go.ensures.table c.let_go.result
    (region_of_task c.args.s.now.layout (get c.args.s.now.handles.held (task_pair c.args.k)))
    c.let_go.ensures.object c.let_go.ensures.kind c.let_go.ensures.place c.let_go.ensures.name (answered_is c.in-Ok.ensures.answer)
    (λ memory o is. lives c.args.s.now.layout (get c.args.s.now.handles.held (task_pair c.args.k)) memory o is)
  where
    lives : (w : List ℕ) (found : Option Held) (memory : Words) (o : Held)
        → answer_on memory (region_of_task w found) ≡ Ok o → answer_on memory (unchanged w o) ≡ Ok o
    lives w found memory o is =
        followed_lives w memory (object_of w Task found) Region TaskRegion 0 (λ x. x.addr) o is

pub returns-in-Ok-clause-leaves : goal.returns-in-Ok-clause-leaves
returns-in-Ok-clause-leaves g c =
    found_leaves g.C.Callbacks.told c.args.s.now c.get_task_parallel_handle.new.s c.let_go.new.s Region _ c.in-Ok.ensures.handles c.get_task_parallel_handle.ensures.stays
    c.let_go.ensures.layout c.let_go.ensures.table c.let_go.ensures.removed c.let_go.ensures.made

-- reads: what was asked

pub returns-in-Ok-clause-reads : goal.returns-in-Ok-clause-reads
returns-in-Ok-clause-reads g c =
    object_found c.let_go.result c.in-Ok.ensures.answer c.let_go.ensures.object c.let_go.ensures.name c.get_task_parallel_handle.ensures.stays.layout c.let_go.ensures.table (walked (get c.args.s.now.handles.held (task_pair c.args.k))) refl refl

pub returns-in-Err-clause-reads : goal.returns-in-Err-clause-reads
returns-in-Err-clause-reads g c =
    object_refused c.in-Err.ensures.answer (walked (get c.args.s.now.handles.held (task_pair c.args.k))) c.fault_of.result refl refl (ap Err (c.fault_of.ensures ∙ ap (λ held. fault_of (get held (task_pair c.args.k)) c.in-Err.rc) c.in-Err.ensures.handles.keeps.held))
