use Rattle.std.proofs.Common.{ℕ, Some, None, sym, ap, ◌∙◌}
use Rattle.std.specs.Prelude.{codes}
use Rattle.omi_outside.specs.Outside.{Told, content_len}
use Rattle.omi_test_process.proofs.processes.read.Goals as goal

abbrev len_of : Told → ℕ
len_of (Some content) = content_len content
len_of None = 0

pub read_process-requires : goal.read_process-requires
read_process-requires c = record { len = λ content told. ap len_of (sym told ∙ c.over-file.ensures.told (codes "p")) }
