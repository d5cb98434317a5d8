use Rattle.std.proofs.Common.{refl}
use Rattle.omi_read.proofs.read_only.ReadOnlyFiles.read_at.Goals as goal

pub read_bytes-requires-clause-within : goal.read_bytes-requires-clause-within
read_bytes-requires-clause-within c = c.requires.within _ refl
