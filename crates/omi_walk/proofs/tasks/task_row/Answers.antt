use Rattle.std.proofs.Common.{◌≡◌, arith, subst, sym}
use Rattle.std.proofs.lemmas.Result.{IfOk-weaker}
use Rattle.omi_walk.specs.declared.tasks.Link.{Link}
use Rattle.omi_walk.specs.Kept.{IsLive}
use Rattle.omi_walk.proofs.LiveTasks.{live_met, live_after}
use Rattle.omi_walk.proofs.Lent.{lent_leaves}
use Rattle.omi_walk.proofs.Goes.{lent_walks, walks_unmade}
use Rattle.std.specs.Ordering.{nat_cmp}
use Rattle.std.specs.BTreeSet.{contains}
use Rattle.omi_walk.specs.AskTasks.{ask_link}
use Rattle.omi_walk.proofs.tasks.task_row.Goals as goal

pub returns-clause-leaves : goal.returns-clause-leaves
returns-clause-leaves g c =
    lent_leaves 3 4 (omega arith) c.in_ok-key.ensures.handed c.hand.ensures.stays c.link_of-link.ensures.leaves c.release.ensures.removed c.release.ensures.made c.release.ensures.layout c.release.ensures.table

pub returns-clause-live : goal.returns-clause-live
returns-clause-live g c =
    let told = g.C.Callbacks.told in
    let s = c.args.s.now in
    let new = c.release.new.self in
    let name = c.args.task.name in
    let lives =
    live_after told s new (returns-clause-leaves g c).stays (record { 0 = name })
    (live_met told s c.args.task c.requires.met) in
    IfOk-weaker c.link_of-link.result (λ (link : Link). link.row.task.0 ≡ name)
    (λ (link : Link). IsLive told new link.row.task)
    (λ (link : Link) is. subst (IsLive told new) (λ i. record { 0 = sym is i }) lives)
    c.link_of-link.ensures.task

-- reads: what was asked

pub returns-in_err-key-clause-reads : goal.returns-in_err-key-clause-reads
returns-in_err-key-clause-reads g c =
    walks_unmade c.hand.ensures.table c.from_residual.ensures.1 c.in_err-key.ensures.memory

pub returns-clause-reads : goal.returns-clause-reads
returns-clause-reads g c =
    lent_walks _ c.args.task.held (λ w k. ask_link w (contains nat_cmp c.args.met.now) c.args.thread c.args.task.name k) c.hand.ensures.table c.hand.ensures.stays.layout c.in_ok-key.ensures.handed.found c.release.ensures.table c.link_of-link.ensures.reads
