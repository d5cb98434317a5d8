use Rattle.std.proofs.Common.{◌≡◌, ◌-◌, ◌≤◌, List, ℕ, drop, length}
use Rattle.omi_corefile.specs.declared.limits.TheConstants.{MOST_SEGMENT_WORDS}
use Rattle.omi_corefile.specs.Refusals.{row_at, segment_at, left_after, segments_at}
use Rattle.omi_corefile.proofs.Rows.{with_front}
use Rattle.omi_read.specs.Holding.{Holds}
use Rattle.omi_page.specs.Spans.{segments_there}
use Rattle.omi_page.specs.Bounds.{AreInOrder, EndWithin}
use Rattle.omi_page.proofs.InOrder.{EndBelow}
use Rattle.omi_page.proofs.opening.read_spans.Given as goal

abbrev pub invariant-loop : goal.invariant-loop
invariant-loop g l = record {
  read : (bytes : List ℕ) → Holds (g.F.Files.told l.fn.files l.name) bytes
      → with_front (segments_there l.order bytes l.spans) (row_at (segment_at l.len l.order) left_after (l.count - l.counter) (l.least, l.room) (drop l.at bytes)) ≡ segments_at l.len l.order l.count (drop l.first bytes);
  room_is_left : l.room ≤ MOST_SEGMENT_WORDS;
  within : l.at ≤ l.len;
  ends : EndWithin l.len l.spans;
  ordered : AreInOrder l.spans;
  below : EndBelow l.least l.spans;
  few : length l.spans ≤ l.counter;
  same : g.F.Files.told l.files ≡ g.F.Files.told l.fn.files;
  later : g.F.Files.reads l.fn.files ≤ g.F.Files.reads l.files;
  writes : g.F.Files.writes l.files ≡ g.F.Files.writes l.fn.files;
}
