use Rattle.std.proofs.Common.{arith}
use Rattle.omi_walk.proofs.Lent.{lent_leaves}
use Rattle.omi_walk.proofs.Goes.{lent_walks, walks_unmade}
use Rattle.omi_walk.specs.AskRegions.{ask_row}
use Rattle.omi_walk.proofs.regions.region_row.Goals as goal

pub returns-clause-leaves : goal.returns-clause-leaves
returns-clause-leaves g c =
    lent_leaves 129 130 (omega arith) c.in_ok-key.ensures.handed c.hand.ensures.stays c.row_of-row.ensures.leaves c.release.ensures.removed c.release.ensures.made c.release.ensures.layout c.release.ensures.table

-- reads: what was asked

pub returns-in_err-key-clause-reads : goal.returns-in_err-key-clause-reads
returns-in_err-key-clause-reads g c =
    walks_unmade c.hand.ensures.table c.from_residual.ensures.1 c.in_err-key.ensures.memory

pub returns-clause-reads : goal.returns-clause-reads
returns-clause-reads g c =
    lent_walks _ c.args.region.held (λ w k. ask_row w c.args.region.name k) c.hand.ensures.table c.hand.ensures.stays.layout c.in_ok-key.ensures.handed.found c.release.ensures.table c.row_of-row.ensures.reads
