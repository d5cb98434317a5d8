use Rattle.std.proofs.Common.{length}
use Rattle.omi_corefile.specs.Spelling.{eight_bytes, words_in}
use Rattle.omi_corefile.proofs.Lengths.{three_fields}
use Rattle.omi_corefile.proofs.encoding.put_segment.Goals as goal

pub returns : goal.returns
returns c =
    let h = c.in_ok-put_words.ensures in
    rw
    (h, c.in_ok-extend_from_slice-2.ensures.items, c.to_le_bytes-2.ensures, c.len.ensures, c.in_ok-extend_from_slice.ensures.items, c.to_le_bytes.ensures)
    (three_fields c.args.out.now.items (eight_bytes c.args.segment.now.start) (eight_bytes (length c.args.segment.now.words)) (words_in c.args.order c.args.segment.now.words))
