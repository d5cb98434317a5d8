-- When a program runs in an image of a layout.
use Rattle.std.specs.Prelude.{◌≡◌, ℕ, ◌≤◌, List, IsTrue}
use Rattle.omi_word.specs.declared.limits.TheConstants.{MOST_WORDS}
use Rattle.omi_script.specs.declared.program.Program.{Program}
use Rattle.omi_layout.specs.declared.limits.TheConstants.{GROUP_VERSION}
use Rattle.omi_layout.specs.Family.{IsFamily}
use Rattle.omi_layout.specs.Place.{fits, image_words}
use Rattle.omi_layout.specs.Table.{thread_count, version}

-- they have equally many threads, the layout fits an image of its own size, that size isn't too large, and a task has words for groups
pub record Suits (p : Program) (w : List ℕ) : Type 0 where
  pub threads : p.threads ≡ thread_count w
  pub fits : IsTrue (fits w (image_words w))
  pub size : image_words w ≤ MOST_WORDS
  pub groups : version w ≡ GROUP_VERSION

-- each of the sixteen families with the program's threads does
abbrev pub FamiliesSuit : Type 0
FamiliesSuit = (p : Program) (k : ℕ) (w : List ℕ) → k ≤ 15 → IsFamily k p.threads w → Suits p w
