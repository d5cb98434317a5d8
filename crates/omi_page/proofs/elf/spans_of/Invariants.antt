use Rattle.std.proofs.Common.{◌≡◌, length, take}
use Rattle.omi_page.specs.Bounds.{AreBoundsOf, EndWithin}
use Rattle.omi_page.proofs.elf.spans_of.Given as goal

abbrev pub invariant-loop-segment : goal.invariant-loop-segment
invariant-loop-segment l = record {
  bounds : AreBoundsOf (take l.segment-index l.segments) l.spans;
  ends : EndWithin l.len l.spans;
  few : length l.spans ≡ l.segment-index;
}
