use Rattle.omi_walk.proofs.KeptLooks.{looks_kept, looks_refused, walks_kept, walks_refused, lives_kept}
use Rattle.omi_walk.proofs.task_handles.kept.Goals as goal

pub returns-in_err-view-clause-look : goal.returns-in_err-view-clause-look
returns-in_err-view-clause-look g c =
    looks_refused g.C.Callbacks.told g.C.Callbacks.asked c.args.s.now c.view_of.new.s c.view_of.new.s c.args.contexts.now
    c.in_err-view.field-0.0 _ c.from_residual.ensures.1 c.in_err-view.ensures.look

pub returns-in_err-view-clause-reads : goal.returns-in_err-view-clause-reads
returns-in_err-view-clause-reads g c =
    walks_refused g.C.Callbacks.told g.C.Callbacks.asked c.args.s.now c.view_of.new.s c.view_of.new.s c.args.contexts.now
    c.in_err-view.field-0.0 _ c.from_residual.ensures.1 c.in_err-view.ensures.reads

pub returns-clause-look : goal.returns-clause-look
returns-clause-look g c =
    looks_kept g.C.Callbacks.told g.C.Callbacks.asked c.args.s.now c.view_of.new.s c.handles_of.new.s c.args.contexts.now
    c.in_ok-view.view c.handles_of.result c.handles_of.ensures.names c.handles_of.ensures.memory c.in_ok-view.ensures.look

pub returns-clause-reads : goal.returns-clause-reads
returns-clause-reads g c =
    walks_kept g.C.Callbacks.told g.C.Callbacks.asked c.args.s.now c.view_of.new.s c.handles_of.new.s c.args.contexts.now
    c.in_ok-view.view c.handles_of.result c.handles_of.ensures.names c.handles_of.ensures.memory c.handles_of.ensures.table
    c.in_ok-view.ensures.reads

pub returns-clause-live : goal.returns-clause-live
returns-clause-live g c =
    lives_kept g.C.Callbacks.told g.C.Callbacks.asked c.args.s.now c.view_of.new.s c.handles_of.new.s c.args.contexts.now
    c.in_ok-view.view.tasks c.handles_of.result c.handles_of.ensures.names c.in_ok-view.ensures.live
    c.handles_of.ensures.stays
