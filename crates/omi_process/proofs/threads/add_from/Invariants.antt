use Rattle.std.proofs.Common.{◌≡◌, ◌-◌, ◌≤◌, List, ℕ, length}
use Rattle.omi_read.specs.Holding.{Holds}
use Rattle.omi_elf.specs.Notes.{notes_from}
use Rattle.omi_process.specs.Reading.{gathered}
use Rattle.omi_process.proofs.threads.add_from.Given as goal

abbrev pub invariant-loop : goal.invariant-loop
invariant-loop g l = record {
  sought : (bytes : List ℕ) → Holds (g.F.Files.told l.fn.files l.name) bytes
      → gathered l.order bytes l.ids (notes_from l.order bytes (length bytes - l.counter) l.place l.room)
      ≡ gathered l.order bytes l.fn.ids (notes_from l.order bytes (length bytes) l.fn.at l.fn.left);
  same : g.F.Files.told l.files ≡ g.F.Files.told l.fn.files;
  later : g.F.Files.reads l.fn.files ≤ g.F.Files.reads l.files;
  writes : g.F.Files.writes l.files ≡ g.F.Files.writes l.fn.files;
}
