-- What the file of a core is: an ELF core file, where it begins with the four bytes of every ELF file, and else a core file of the format of
-- omi_corefile. Each of the following is said of an ELF file, `true`, and of any other one.
use Rattle.std.specs.Prelude.{◌≡◌, ℕ, Bool, true, false, List, Some}
use Rattle.omi_corefile.specs.Refusals.{CoreRefused, Parts}
use Rattle.omi_corefile.specs.Spelling.{Core}
use Rattle.omi_corefile.specs.declared.core_image.CoreImage.{CoreImage}
use Rattle.omi_elf.specs.ElfCore.{ElfCore}
use Rattle.omi_elf.specs.Header.{begins_as_elf}
use Rattle.omi_elf.specs.Table.{ElfRefused}
use Rattle.omi_page.specs.Told.{parts_of_bytes}
use Rattle.omi_page.specs.declared.fault.PageError.{PageError}
use Rattle.omi_page.specs.declared.fault.PageError.TheVariants as page

-- the file stands for this core
abbrev pub IsCoreBy : Bool → List ℕ → CoreImage → Type 0
IsCoreBy true bytes core = ElfCore bytes core
IsCoreBy false bytes core = Core bytes core

abbrev pub IsFileOf : List ℕ → CoreImage → Type 0
IsFileOf bytes core = IsCoreBy (begins_as_elf bytes) bytes core

-- the error tells the first fault of the file
abbrev pub IsFaultBy : Bool → List ℕ → PageError → Type 0
IsFaultBy true bytes (page.Elf at why) = ElfRefused bytes at why
IsFaultBy false bytes (page.Fault at why) = CoreRefused bytes at why
IsFaultBy elf bytes other = ⊥

abbrev pub IsFault : List ℕ → PageError → Type 0
IsFault bytes error = IsFaultBy (begins_as_elf bytes) bytes error

-- the parts of a core
abbrev pub parts_of_core : CoreImage → Parts
parts_of_core core = record { order = core.order; contexts = core.contexts; segments = core.segments }

-- the file stands for a core, whose parts are those that are read
pub record StandsForCore (bytes : List ℕ) : Type 0 where
  pub core : CoreImage
  pub is : IsFileOf bytes core
  pub read : parts_of_bytes bytes ≡ Some (parts_of_core core)
