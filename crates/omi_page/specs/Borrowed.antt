-- What pages hold, and what they tell and count by it.
use Rattle.std.specs.Prelude.{◌≡◌, ℕ, List}
use Rattle.std.specs.Borrow.{MutBor}
use Rattle.omi_outside.specs.declared.files.Files as files
use Rattle.omi_calls.specs.Told.{Told}
use Rattle.omi_page.specs.declared.pages.Pages.{Pages}
use Rattle.omi_page.specs.Told.{told_by_file}

module _ {F : Type 0} {g : files.Ghosts F} where
  -- the files and the name that they borrow
  abbrev pub files_of : Pages F g → MutBor F
  files_of pages = pages.files

  abbrev pub name_of : Pages F g → List ℕ
  name_of pages = pages.name.now

  -- the order of the bytes of a word
  abbrev pub order_of : Pages F g → ℕ
  order_of pages = pages.order

  -- the native ids
  abbrev pub contexts_of : Pages F g → List ℕ
  contexts_of pages = pages.contexts

  -- they tell what the file tells as a target
  abbrev pub told_of : Pages F g → Told
  told_of pages = told_by_file (g.told pages.files.now pages.name.now)

  -- a fault of theirs is a fault of reading the files
  abbrev pub faults_counted : Pages F g → ℕ
  faults_counted pages = g.reads pages.files.now

  -- what is borrowed stays as it was, but for the count of reads that failed
  pub record StaysBorrowed (old new : Pages F g) : Type 0 where
    pub reference : new.files.ghost_name ≡ old.files.ghost_name
    pub told : g.told new.files.now ≡ g.told old.files.now
    pub writes : g.writes new.files.now ≡ g.writes old.files.now
    pub name : new.name.now ≡ old.name.now
    pub contexts : new.contexts ≡ old.contexts
    pub order : new.order ≡ old.order
