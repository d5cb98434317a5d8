use Rattle.std.proofs.Common.{◌≡◌, List, ℕ, subst}
use Rattle.omi_outside.specs.Outside.{AreBytes}
use Rattle.omi_read.proofs.read_only.ReadOnlyFiles.size.Goals as goal

pub returns-clause-are_bytes : goal.returns-clause-are_bytes
returns-clause-are_bytes c = λ bytes is.
    let same : c.args.self.now.bytes.now ≡ bytes = cc in
    subst AreBytes same c.byte_count.ensures.are_bytes
