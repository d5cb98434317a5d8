use Rattle.std.proofs.Common.{Some, ◌∙◌, arith}
use Rattle.omi_elf.proofs.Front.{front_of, begins_of_front}
use Rattle.omi_page.proofs.formats.is_elf.Goals as goal

pub returns-clause-begins : goal.returns-clause-begins
returns-clause-begins g c = λ bytes told.
    let long = c.requires.len (Some bytes) told in
    let front = front_of 4 bytes _ c.in_ok-count.count (omega (arith, c.in_ok-count.ensures.count, long)) (c.in_ok-count.ensures.bytes bytes told) in
    c.begins_as_elf.ensures ∙ begins_of_front bytes _ front
