use Rattle.std.proofs.Common.{arith}
use Rattle.omi_layout.proofs.Arenas.{threads_of_valid}
use Rattle.omi_layout.proofs.layout.Layout.thread_of.Goals as goal

pub overflow_cast-result : goal.overflow_cast-result
overflow_cast-result c =
    let within = c.in_ok-index.ensures.is.0 in
    omega (arith, within, threads_of_valid c.args.self.now.table c.args.self.now.valid)
