use Rattle.std.proofs.Common.{arith}
use Rattle.omi_layout.proofs.Arenas.{tasks_of_valid}
use Rattle.omi_step_words.proofs.searches.next_task_slot.Goals as goal

pub overflow_add-slot : goal.overflow_add-slot
overflow_add-slot c = omega (arith, c.requires, tasks_of_valid c.args.l.now.table c.args.l.now.valid)
