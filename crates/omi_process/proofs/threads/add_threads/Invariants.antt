use Rattle.std.proofs.Common.{◌≡◌, ◌≤◌, List, ℕ, drop}
use Rattle.omi_read.specs.Holding.{Holds}
use Rattle.omi_process.specs.Reading.{gathered, notes_of}
use Rattle.omi_process.proofs.threads.add_threads.Given as goal

abbrev pub invariant-loop-header : goal.invariant-loop-header
invariant-loop-header g l = record {
  sought : (bytes : List ℕ) → Holds (g.F.Files.told l.fn.files l.name) bytes
      → gathered l.order bytes l.ids (notes_of l.order bytes (drop l.header-index l.headers))
      ≡ gathered l.order bytes l.fn.ids (notes_of l.order bytes l.headers);
  same : g.F.Files.told l.files ≡ g.F.Files.told l.fn.files;
  later : g.F.Files.reads l.fn.files ≤ g.F.Files.reads l.files;
  writes : g.F.Files.writes l.files ≡ g.F.Files.writes l.fn.files;
}
