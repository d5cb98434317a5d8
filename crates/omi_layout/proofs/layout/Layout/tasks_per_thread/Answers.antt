use Rattle.std.proofs.Common.{arith}
use Rattle.omi_layout.proofs.Arenas.{tasks_of_valid}
use Rattle.omi_layout.proofs.layout.Layout.tasks_per_thread.Goals as goal

pub overflow_cast-result : goal.overflow_cast-result
overflow_cast-result c = omega (arith, tasks_of_valid c.args.self.now.table c.args.self.now.valid)
