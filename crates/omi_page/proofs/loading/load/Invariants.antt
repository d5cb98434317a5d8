use Rattle.std.proofs.Common.{◌≡◌, ◌+◌, ◌%◌, ◌<◌, ◌≤◌, ℕ, List, length, drop, Some}
use Rattle.omi_page.specs.declared.limits.TheConstants.{PAGE_BYTES}
use Rattle.omi_read.specs.Holding.{Holds}
use Rattle.omi_page.specs.Spans.{eight_at, place_in}
use Rattle.omi_page.proofs.loading.load.Given as goal

abbrev pub invariant-loop-left : goal.invariant-loop-left
invariant-loop-left g l = record {
  so_far : (bytes : List ℕ) → Holds (g.F.Files.told l.fn.files l.name) bytes → (offset at : ℕ)
      → offset % 8 ≡ 0 → offset < PAGE_BYTES
      → place_in (drop l.left l.spans) (l.base + offset) ≡ Some at → eight_at l.buffer offset ≡ eight_at bytes at;
  long : length l.buffer ≡ length l.fn.buffer;
  within : l.left ≤ length l.spans;
  same : g.F.Files.told l.files ≡ g.F.Files.told l.fn.files;
  later : g.F.Files.reads l.fn.files ≤ g.F.Files.reads l.files;
  writes : g.F.Files.writes l.files ≡ g.F.Files.writes l.fn.files;
}

abbrev pub decreases-loop-left : goal.decreases-loop-left
decreases-loop-left g l = l.left
