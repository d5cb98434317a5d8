use Rattle.std.specs.Ordering.{nat_cmp}
use Rattle.std.specs.BTreeSet.{contains}
use Rattle.std.specs.FinMap.{get}
use Rattle.omi_session.specs.Made.{task_pair}
use Rattle.omi_walk.specs.Chains.{unmet}
use Rattle.omi_walk.specs.AskTasks.{ask_scheduling, ask_next}
use Rattle.omi_walk.proofs.Goes.{goes_begin, goes_stop, walks_judged}
use Rattle.omi_walk.proofs.tasks.next_of.Goals as goal

-- reads: what was asked

pub returns-in_err-next-clause-reads : goal.returns-in_err-next-clause-reads
unfolding ask_next
returns-in_err-next-clause-reads g c =
    let told = g.C.Callbacks.told in
    let asked = g.C.Callbacks.asked in
    let s = c.args.s.now in
    let pair = task_pair c.args.k in
    let all = ask_next s.layout (contains nat_cmp c.args.met.now) (get s.handles.held pair) in
    goes_stop told asked s s _ pair all (λ w k. ask_scheduling w k) _
    (goes_begin told asked s all) c.in_err-next.field-0.0 _ c.in_err-next.ensures.reads c.from_residual.ensures.1

pub returns-clause-reads : goal.returns-clause-reads
unfolding ask_next
returns-clause-reads g c =
    walks_judged g.C.Callbacks.told g.C.Callbacks.asked c.args.s.now _
    (unmet (contains nat_cmp c.args.met.now)) c.in_ok-next.next _ _ c.unmet.ensures c.in_ok-next.ensures.reads
