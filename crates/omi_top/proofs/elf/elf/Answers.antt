use Rattle.omi_top.proofs.elf.elf.Goals as goal

pub returns-clause-performed : goal.returns-clause-performed
returns-clause-performed g c = c.write_copy.ensures.performed
