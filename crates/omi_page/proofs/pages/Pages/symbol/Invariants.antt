use Rattle.std.proofs.Common.{◌≡◌, ◌≤◌, ◌+◌, ◌*◌, ◌-◌, Some}
use Rattle.omi_word.specs.Words.{Words}
use Rattle.omi_calls.specs.Told.{aligned_word_at}
use Rattle.omi_word.proofs.Symbols.{Reads}
use Rattle.omi_page.specs.Borrowed.{StaysBorrowed}
use Rattle.omi_page.specs.Told.{told_by_file}
use Rattle.omi_page.proofs.pages.Pages.symbol.Given as goal

abbrev pub invariant-loop-left : goal.invariant-loop-left
invariant-loop-left g l = record {
  within : l.left ≤ l.count;
  read : (words rest : Words)
      → (told_by_file (g.F.Files.told l.fn.self.files.now l.fn.self.name.now)).words rest ≡ Some words
      → Reads (aligned_word_at words) l.name (65544 + 40 * l.left) (l.count - l.left) l.found;
  same : told_by_file (g.F.Files.told l.self.files.now l.self.name.now) ≡ told_by_file (g.F.Files.told l.fn.self.files.now l.fn.self.name.now);
  stays : StaysBorrowed l.fn.self l.self;
  later : g.F.Files.reads l.fn.self.files.now ≤ g.F.Files.reads l.self.files.now;
}

abbrev pub decreases-loop-left : goal.decreases-loop-left
decreases-loop-left g l = l.left
