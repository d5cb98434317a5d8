use Rattle.omi_elf.proofs.Within.{header_within}
use Rattle.std.proofs.Common.{refl}
use Rattle.omi_elf.proofs.reading.program_header.Goals as goal

pub returns : goal.returns
returns c = λ bytes is.
    header_within c.args.order bytes c.args.entry.now c.args.at _ is c.requires.room refl
    c.number32.ensures c.number64.ensures c.number64-2.ensures c.number64-3.ensures
