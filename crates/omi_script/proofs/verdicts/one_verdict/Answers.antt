use Rattle.omi_script.proofs.VerdictLemmas.{AreEqual-from_workload, same_fault, not_both}
use Rattle.omi_script.proofs.SoundPrograms.{workload_or_refused}
use Rattle.omi_script.proofs.verdicts.one_verdict.Goals as goal

pub returns : goal.returns
returns c = record { some = workload_or_refused; one = AreEqual-from_workload; one_fault = same_fault; apart = not_both }
