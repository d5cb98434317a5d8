use Rattle.std.proofs.Common.{◌<◌, ◌+◌, ◌*◌, slice_index_or, arith}
use Rattle.omi_layout.proofs.Arenas.{index_few, threads_of_valid, tasks_of_valid}
use Rattle.omi_layout.proofs.layout.Layout.task_at.Goals as goal
use Rattle.omi_layout.proofs.layout.Layout.task_at.Goals.{Start}

small : (c : Start) → c.args.creator * slice_index_or c.args.self.now.table 11 0 + c.args.slot < 266240
small c =
    let w = c.args.self.now.table in
    let v = c.args.self.now.valid in
    index_few w 4 c.args.creator c.args.slot (omega arith) (threads_of_valid w v)
    (omega (arith, tasks_of_valid w v)) c.requires

pub overflow_mul-index : goal.overflow_mul-index
overflow_mul-index c = omega (arith, small (goal.at.overflow_mul-index c).Start)

pub overflow_add-index : goal.overflow_add-index
overflow_add-index c = omega (arith, small (goal.at.overflow_add-index c).Start)
