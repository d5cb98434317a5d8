use Rattle.omi_model.proofs.NthreadsShortened.{nthreads_shortened}
use Rattle.omi_model.proofs.machine_laws.nthreads_shorten.Goals as goal

pub returns : goal.returns
returns c = nthreads_shortened
