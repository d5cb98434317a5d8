use Rattle.std.proofs.Common.{arith}
use Rattle.omi_layout.proofs.Arenas.{threads_of_valid}
use Rattle.omi_layout.proofs.layout.Layout.threads.Goals as goal

pub overflow_cast-result : goal.overflow_cast-result
overflow_cast-result c = omega (arith, threads_of_valid c.args.self.now.table c.args.self.now.valid)
