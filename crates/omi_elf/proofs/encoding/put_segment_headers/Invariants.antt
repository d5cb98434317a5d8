use Rattle.std.proofs.Common.{◌≡◌, ◌+◌, ◌*◌, ◌++◌, take, drop}
use Rattle.omi_corefile.specs.Limits.{total_words}
use Rattle.omi_elf.specs.Spelling.{segment_headers}
use Rattle.omi_elf.proofs.encoding.put_segment_headers.Given as goal

abbrev pub invariant-loop-at : goal.invariant-loop-at
invariant-loop-at l = record {
  put : l.out.items ++ segment_headers l.order l.place (drop l.at l.segments) ≡ l.fn.out.items ++ segment_headers l.order l.fn.offset l.segments;
  where_ : l.place ≡ l.fn.offset + 8 * total_words (take l.at l.segments);
}
