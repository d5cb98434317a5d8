use Rattle.std.proofs.Common.{◌≡◌, ◌++◌, take}
use Rattle.std.specs.List.{flat_map}
use Rattle.omi_corefile.specs.Spelling.{words_in}
use Rattle.omi_corefile.specs.declared.segment.Segment.{Segment}
use Rattle.omi_elf.proofs.encoding.put_segments.Given as goal

abbrev pub invariant-loop-at : goal.invariant-loop-at
invariant-loop-at l = l.out.items ≡ l.fn.out.items ++ flat_map (λ (s : Segment). words_in l.order s.words) (take l.at l.segments)
