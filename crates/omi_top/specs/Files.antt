-- What the file of a core is to a command that looks at its words: an ELF core file, where it begins with the four bytes of every ELF file,
-- and else a core file of the format of omi_corefile.
use Rattle.std.specs.Prelude.{◌≡◌, ℕ, Bool, true, false, List, Option, Some, None}
use Rattle.omi_corefile.specs.Refusals.{CoreRefused}
use Rattle.omi_corefile.specs.declared.core_image.CoreImage.{CoreImage}
use Rattle.omi_corefile.specs.declared.fault.CoreFault.{CoreFault}
use Rattle.omi_elf.specs.Header.{begins_as_elf}
use Rattle.omi_elf.specs.Table.{ElfRefused}
use Rattle.omi_elf.specs.declared.fault.ElfFault.{ElfFault}
use Rattle.omi_page.specs.CoreFiles.{IsCoreBy}
use Rattle.omi_frame.specs.declared.refusal.Input.TheVariants as input
use Rattle.omi_frame.specs.declared.refusal.Refusal.{Refusal}
use Rattle.omi_frame.specs.declared.refusal.Refusal.TheVariants as refusal

-- Each of the following is said of an ELF file, `true`, and of any other one. Which core it stands for is said by IsFileOf of omi_page.

-- the file has a fault of its format
abbrev pub HasFaultBy : Bool → List ℕ → Type 0
HasFaultBy true bytes = (at : ℕ) × (why : ElfFault) × ElfRefused bytes at why
HasFaultBy false bytes = (at : ℕ) × (why : CoreFault) × CoreRefused bytes at why

abbrev pub HasFault : List ℕ → Type 0
HasFault bytes = HasFaultBy (begins_as_elf bytes) bytes

-- the refusal that tells the fault and its place
abbrev pub IsFaultBy : Bool → List ℕ → Refusal → Type 0
IsFaultBy true bytes r =
    (at : ℕ) × (why : ElfFault) × ElfRefused bytes at why × (r ≡ refusal.Elf at why)
IsFaultBy false bytes r =
    (at : ℕ) × (why : CoreFault) × CoreRefused bytes at why × (r ≡ refusal.Core at why)

-- the file of this content holds this core, and it is refused: there is none, or it has a fault
abbrev pub Holds : Bool → Option (List ℕ) → CoreImage → Type 0
Holds elf None core = ⊥
Holds elf (Some bytes) core = IsCoreBy elf bytes core

abbrev pub IsRefusalBy : Bool → Option (List ℕ) → Refusal → Type 0
IsRefusalBy elf None r = r ≡ refusal.NoFile input.Core
IsRefusalBy elf (Some bytes) r = IsFaultBy elf bytes r

-- why the file of a core is refused, by the four bytes
abbrev pub IsFileRefusal : Option (List ℕ) → Refusal → Type 0
IsFileRefusal None r = r ≡ refusal.NoFile input.Core
IsFileRefusal (Some bytes) r = IsFaultBy (begins_as_elf bytes) bytes r
