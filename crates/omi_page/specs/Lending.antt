-- What no read of lent pages changes.
use Rattle.std.specs.Prelude.{◌≡◌, ◌≤◌, ℕ, List}
use Rattle.std.specs.Borrow.{GName}
use Rattle.omi_outside.specs.Outside.{Told}
use Rattle.omi_outside.specs.declared.files.Files as files
use Rattle.omi_page.specs.declared.pages.Pages.{Pages}

-- the files that are borrowed, by the name of the reference, what they tell, and how many of their reads and of their writes have failed
pub record Lending : Type 0 where
  pub reference : GName
  pub told : List ℕ → Told
  pub reads : ℕ
  pub writes : ℕ

-- pages borrow these files, of which more reads may have failed since
pub record IsLent {F : Type 0} {g : files.Ghosts F} (lending : Lending) (pages : Pages F g) : Type 0 where
  pub reference : pages.files.ghost_name ≡ lending.reference
  pub told : g.told pages.files.now ≡ lending.told
  pub reads : lending.reads ≤ g.reads pages.files.now
  pub writes : g.writes pages.files.now ≡ lending.writes

-- what pages borrow now
abbrev pub lending_of : {F : Type 0} {g : files.Ghosts F} → Pages F g → Lending
lending_of {g = g} pages = record {
  reference = pages.files.ghost_name;
  told = g.told pages.files.now;
  reads = g.reads pages.files.now;
  writes = g.writes pages.files.now;
}
