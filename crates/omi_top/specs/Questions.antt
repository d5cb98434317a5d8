-- What a command is answered that asks something of the core in a file, and why it gets no answer.
use Rattle.std.specs.Prelude.{◌≡◌, ◌⊎◌, ℕ, Bool, false, List, Option, Some, None, Result, Ok, Err, ⊤}
use Rattle.omi_corefile.specs.declared.core_image.CoreImage.{CoreImage}
use Rattle.omi_layout.specs.NoLayout.{GivesNone}
use Rattle.omi_layout.specs.declared.fault.LayoutFault.TheVariants.{Version}
use Rattle.omi_layout.specs.declared.reading.LayoutError.{LayoutError}
use Rattle.omi_layout.specs.declared.reading.LayoutError.TheVariants as layout
use Rattle.omi_page.specs.declared.fault.PageError.{PageError}
use Rattle.omi_page.specs.declared.fault.PageError.TheVariants as page
use Rattle.omi_top.specs.Cores.{words_of_core}
use Rattle.omi_elf.specs.Header.{begins_as_elf}
use Rattle.omi_top.specs.Files.{IsFaultBy, IsRefusalBy}
use Rattle.omi_page.specs.CoreFiles.{IsCoreBy}
use Rattle.omi_commands.specs.Inquiries.{ComesOfWords}
use Rattle.omi_frame.specs.Refusal.{IsUnread}
use Rattle.omi_frame.specs.declared.refusal.Input.TheVariants as input
use Rattle.omi_frame.specs.declared.refusal.Refusal.{Refusal}
use Rattle.omi_frame.specs.declared.refusal.Refusal.TheVariants as refusal

-- ---- what an error is handed on as. A callback that fails is a read that failed

-- the error of opening a core's file
abbrev pub refusal_of_page : PageError → Refusal
refusal_of_page (page.Fault at why) = refusal.Core at why
refusal_of_page (page.Elf at why) = refusal.Elf at why
refusal_of_page page.NoFile = refusal.NoFile input.Core
refusal_of_page page.Failed = refusal.ReadFault input.Core
refusal_of_page page.OutOfMemory = refusal.OutOfMemory

-- that of the layout in a core's words
abbrev pub refusal_of_layout : LayoutError → Refusal
refusal_of_layout layout.NoSymbol = refusal.Incompatible
refusal_of_layout (layout.Unmapped addr) = refusal.Damaged addr 0
refusal_of_layout (layout.Refused addr (Version v)) = refusal.Incompatible
refusal_of_layout (layout.Refused addr other) = refusal.Damaged addr 0

-- ---- why there is no answer

-- there is no file, or the grammar of core files refuses its bytes. It is what a command says that writes a copy of a core, and looks at no
-- word of it
abbrev pub IsCoreRefusal : Option (List ℕ) → Refusal → Type 0
IsCoreRefusal content r = IsRefusalBy false content r

-- a core's words give no layout
abbrev pub IsLayoutRefusal : CoreImage → Refusal → Type 0
IsLayoutRefusal core r =
    (cause : LayoutError) × GivesNone (words_of_core core) cause × (r ≡ refusal_of_layout cause)

-- there is no session over the core's words, and this is why: they give no layout, or a read failed
abbrev pub IsUnopened : CoreImage → Refusal → Type 0
IsUnopened core r = IsLayoutRefusal core r ⊎ (r ≡ refusal.ReadFault input.Core)

-- a refusal of a file, or of the words of the core in it
abbrev pub ComesOfFile : Refusal → Type 0
ComesOfFile (refusal.NoFile input.Core) = ⊤
ComesOfFile (refusal.Core at why) = ⊤
ComesOfFile (refusal.Elf at why) = ⊤
ComesOfFile r = ComesOfWords r

-- ---- an answer

-- What is answered by the content of a file, an ELF file or another one, where `answers` says what is of a core: the file stands for a core, and this is
-- answered of it; or it is refused.
abbrev pub IsAnswerBy : {A : Type 0} → Bool → (CoreImage → Result A Refusal → Type 0)
    → Option (List ℕ) → Result A Refusal → Type 0
IsAnswerBy elf answers None (Ok a) = ⊥
IsAnswerBy elf answers (Some bytes) (Ok a) =
    (core : CoreImage) × IsCoreBy elf bytes core × answers core (Ok a)
IsAnswerBy elf answers None (Err r) = IsRefusalBy elf None r ⊎ IsUnread input.Core r
IsAnswerBy elf answers (Some bytes) (Err r) =
    IsFaultBy elf bytes r
    ⊎ (IsUnread input.Core r ⊎ ((core : CoreImage) × IsCoreBy elf bytes core × answers core (Err r)))

-- and by the four bytes that an ELF file begins with
abbrev pub IsAnswerOf : {A : Type 0} → (CoreImage → Result A Refusal → Type 0) → Option (List ℕ)
    → Result A Refusal → Type 0
IsAnswerOf answers None result = IsAnswerBy false answers None result
IsAnswerOf answers (Some bytes) result = IsAnswerBy (begins_as_elf bytes) answers (Some bytes) result
