use Rattle.omi_process.proofs.ElfCores.{elf_cores_accepted}
use Rattle.omi_process.proofs.laws.elf_cores_are_process_cores.Goals as goal

pub returns : goal.returns
returns c = elf_cores_accepted
