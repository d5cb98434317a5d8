use Rattle.std.proofs.Common.{arith}
use Rattle.omi_read.proofs.read_only.byte_count.Goals as goal

pub returns-clause-are_bytes : goal.returns-clause-are_bytes
returns-clause-are_bytes c = λ k. omega (arith, c.type_inv.bytes k)
