use Rattle.omi_core.proofs.DeferSlots.{no_run_defers_behind}
use Rattle.omi_core.proofs.laws.no_run_defers_behind_slots.Goals as goal

pub returns : goal.returns
returns c = no_run_defers_behind
