use Rattle.std.proofs.Common.{◌≡◌, ◌-◌, ◌≤◌, List, ℕ, length}
use Rattle.omi_read.specs.Holding.{Holds}
use Rattle.omi_elf.specs.Found.{last_from}
use Rattle.omi_elf.proofs.notes.first_in.Given as goal

abbrev pub invariant-loop : goal.invariant-loop
invariant-loop g l = record {
  sought : (bytes : List ℕ) → Holds (g.F.Files.told l.fn.files l.name) bytes
      → last_from l.order bytes (length bytes - l.counter) l.place l.room
      ≡ last_from l.order bytes (length bytes) l.fn.at l.fn.left;
  same : g.F.Files.told l.files ≡ g.F.Files.told l.fn.files;
  later : g.F.Files.reads l.fn.files ≤ g.F.Files.reads l.files;
  writes : g.F.Files.writes l.files ≡ g.F.Files.writes l.fn.files;
}
