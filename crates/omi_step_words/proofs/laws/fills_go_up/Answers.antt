use Rattle.omi_step_words.proofs.Rising.{region_stores, task_stores}
use Rattle.omi_step_words.proofs.laws.fills_go_up.Goals as goal

pub returns : goal.returns
returns c = record { regions = region_stores; tasks = task_stores }
