use Rattle.std.proofs.Common.{rules, arith, ◌≡◌}
use Rattle.std.proofs.lemmas.Grind.{common_steps}
use Rattle.omi_elf.specs.Spelling.{elf_bytes}
use Rattle.omi_elf.proofs.WrittenCore.{written_core}
use Rattle.omi_elf.proofs.encoding.encode_elf.Goals as goal

pub returns-clause-core : goal.returns-clause-core
returns-clause-core c =
    let is : c.put_segments.new.out.items ≡ elf_bytes c.args.c.now = first_of (search rules, grind (arith, common_steps)) in
    rw is (written_core c.args.c.now)
