use Rattle.omi_corefile.specs.Spelling.{spelling}
use Rattle.omi_top.proofs.Recoded.{elf_alike, elf_copy_alike, shows_alike}
use Rattle.omi_top.proofs.laws.files_show_alike.Goals as goal

pub returns-clause-alike : goal.returns-clause-alike
returns-clause-alike c = shows_alike

pub returns-clause-elf : goal.returns-clause-elf
returns-clause-elf c = λ bytes core is. shows_alike bytes (spelling core) (elf_alike bytes core is)

pub returns-clause-copies : goal.returns-clause-copies
returns-clause-copies c = λ bytes copy line is. shows_alike bytes copy (elf_copy_alike bytes copy line is)
