use Rattle.std.proofs.Common.{arith, Some}
use Rattle.std.specs.Ordering.{nat_cmp}
use Rattle.std.specs.BTreeSet.{contains}
use Rattle.omi_walk.specs.Chains.{unmet}
use Rattle.omi_walk.specs.AskRegions.{ask_enclosing, ask_outward}
use Rattle.omi_walk.proofs.Lent.{lent_leaves}
use Rattle.omi_walk.proofs.Goes.{goes_begin, goes_stop, lent_walks, walks_judged, walks_unmade}
use Rattle.omi_walk.proofs.chain.onward.Goals as goal

pub returns-in_err-next-clause-leaves : goal.returns-in_err-next-clause-leaves
returns-in_err-next-clause-leaves g c =
    lent_leaves 1 2 (omega arith) c.in_ok-key.ensures.handed c.hand.ensures.stays c.related_of-next.ensures.leaves c.release.ensures.removed c.release.ensures.made c.release.ensures.layout c.release.ensures.table

pub returns-clause-leaves : goal.returns-clause-leaves
returns-clause-leaves g c =
    lent_leaves 1 2 (omega arith) c.in_ok-key.ensures.handed c.hand.ensures.stays c.related_of-next.ensures.leaves c.release.ensures.removed c.release.ensures.made c.release.ensures.layout c.release.ensures.table

-- reads: what was asked

pub returns-in_err-key-clause-reads : goal.returns-in_err-key-clause-reads
returns-in_err-key-clause-reads g c =
    walks_unmade c.hand.ensures.table c.from_residual.ensures.1 c.in_err-key.ensures.memory

pub returns-in_err-next-clause-reads : goal.returns-in_err-next-clause-reads
unfolding ask_outward
returns-in_err-next-clause-reads g c =
    let told = g.C.Callbacks.told in
    let asked = g.C.Callbacks.asked in
    let s = c.args.s.now in
    let h = c.args.region.held in
    let all = ask_outward s.layout (contains nat_cmp c.args.met.now) (Some h) in
    goes_stop told asked s s _ (0, 0) all (λ w k. ask_enclosing w (Some h)) _
    (goes_begin told asked s all) c.in_err-next.field-0.0 _
    (lent_walks _ h (λ w k. ask_enclosing w k) c.hand.ensures.table c.hand.ensures.stays.layout c.in_ok-key.ensures.handed.found c.release.ensures.table c.in_err-next.ensures.reads) c.from_residual-in_err-next.ensures.1

pub returns-clause-reads : goal.returns-clause-reads
unfolding ask_outward
returns-clause-reads g c =
    walks_judged g.C.Callbacks.told g.C.Callbacks.asked c.args.s.now _
    (unmet (contains nat_cmp c.args.met.now)) c.in_ok-next.field-0 _ _ c.unmet.ensures
    (lent_walks _ c.args.region.held (λ w k. ask_enclosing w k) c.hand.ensures.table c.hand.ensures.stays.layout c.in_ok-key.ensures.handed.found c.release.ensures.table c.in_ok-next.ensures.reads)
