use Rattle.std.proofs.Common.{length}
use Rattle.omi_word.specs.declared.limits.TheConstants.{FIRST_ADDRESS}
use Rattle.omi_corefile.specs.Spelling.{header, numbers, eight_bytes}
use Rattle.omi_corefile.proofs.Lengths.{four_fields}
use Rattle.omi_corefile.proofs.encoding.put_front.Goals as goal

pub returns : goal.returns
returns c =
    rw
    (c.in_ok-extend_from_slice-2.ensures.items, c.to_le_bytes-2.ensures, c.in_ok-extend_from_slice.ensures.items, c.to_le_bytes.ensures, c.in_ok-put_numbers.ensures, c.in_ok-put_header.ensures, c.len.ensures)
    (four_fields c.args.out.now.items (header 0 (length c.args.contexts.now) 1) (numbers c.args.contexts.now) (eight_bytes FIRST_ADDRESS) (eight_bytes c.args.words))
