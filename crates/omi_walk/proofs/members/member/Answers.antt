use Rattle.omi_session.specs.Made.{region_pair}
use Rattle.std.proofs.Common.{refl}
use Rattle.std.specs.FinMap.{get}
use Rattle.omi_walk.specs.AskRegions.{ask_member_task, ask_member_thread, ask_member}
use Rattle.omi_walk.proofs.Goes.{goes_begin, goes_on, goes_stop, goes_end}
use Rattle.omi_walk.proofs.members.member.Goals as goal

-- reads: what was asked

pub returns-in_err-task-clause-reads : goal.returns-in_err-task-clause-reads
unfolding ask_member
returns-in_err-task-clause-reads g c =
    let told = g.C.Callbacks.told in
    let asked = g.C.Callbacks.asked in
    let s = c.args.s.now in
    let pair = region_pair c.args.r in
    let all = ask_member s.layout (get s.handles.held pair) c.args.num in
    let so0 = goes_begin told asked s all in
    goes_stop told asked s s _ pair all
    (λ w k. ask_member_task w c.args.num k) _ so0 c.in_err-task.field-0.0 _ c.in_err-task.ensures.reads c.from_residual.ensures.1

pub returns-in_err-thread-clause-reads : goal.returns-in_err-thread-clause-reads
unfolding ask_member
returns-in_err-thread-clause-reads g c =
    let told = g.C.Callbacks.told in
    let asked = g.C.Callbacks.asked in
    let s = c.args.s.now in
    let pair = region_pair c.args.r in
    let all = ask_member s.layout (get s.handles.held pair) c.args.num in
    let so0 = goes_begin told asked s all in
    let so1 =
    goes_on told asked s s c.task_of.new.s pair all
    (λ w k. ask_member_task w c.args.num k) _ so0 _ c.in_ok-task.task c.task_of.ensures.leaves c.in_ok-task.ensures.reads in
    goes_stop told asked s c.task_of.new.s _ pair all
    (λ w k. ask_member_thread w c.args.num k) _ so1 c.in_err-thread.field-0.0 _ c.in_err-thread.ensures.reads c.from_residual-in_err-thread.ensures.1

pub returns-clause-reads : goal.returns-clause-reads
unfolding ask_member
returns-clause-reads g c =
    let told = g.C.Callbacks.told in
    let asked = g.C.Callbacks.asked in
    let s = c.args.s.now in
    let pair = region_pair c.args.r in
    let all = ask_member s.layout (get s.handles.held pair) c.args.num in
    let so0 = goes_begin told asked s all in
    let so1 =
    goes_on told asked s s c.task_of.new.s pair all
    (λ w k. ask_member_task w c.args.num k) _ so0 _ c.in_ok-task.task c.task_of.ensures.leaves c.in_ok-task.ensures.reads in
    let so2 =
    goes_on told asked s c.task_of.new.s c.thread_of.new.s pair all
    (λ w k. ask_member_thread w c.args.num k) _ so1 _ c.in_ok-thread.thread c.thread_of.ensures.leaves c.in_ok-thread.ensures.reads in
    goes_end told asked s c.thread_of.new.s all _ _ refl so2
