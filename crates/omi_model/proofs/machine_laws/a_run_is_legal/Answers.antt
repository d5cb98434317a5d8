use Rattle.omi_model.proofs.RunIsLegal.{run_is_legal}
use Rattle.omi_model.proofs.machine_laws.a_run_is_legal.Goals as goal

pub returns : goal.returns
returns c = run_is_legal
