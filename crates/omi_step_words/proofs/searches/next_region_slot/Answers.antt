use Rattle.std.proofs.Common.{arith}
use Rattle.omi_layout.proofs.Arenas.{regions_of_valid}
use Rattle.omi_step_words.proofs.searches.next_region_slot.Goals as goal

pub overflow_add-slot : goal.overflow_add-slot
overflow_add-slot c = omega (arith, c.requires, regions_of_valid c.args.l.now.table c.args.l.now.valid)
