use Rattle.std.proofs.Common.{◌≡◌, ◌++◌, take}
use Rattle.std.specs.List.{flat_map}
use Rattle.omi_corefile.specs.Spelling.{segment_bytes}
use Rattle.omi_corefile.proofs.encoding.put_segments.Given as goal

abbrev pub invariant-loop-at : goal.invariant-loop-at
invariant-loop-at l = l.out.items ≡ l.fn.out.items ++ flat_map (segment_bytes l.order) (take l.at l.list)
