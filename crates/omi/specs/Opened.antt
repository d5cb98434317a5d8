-- What an opened core is, and why one isn't opened, by what the file holds.
use Rattle.std.specs.Prelude.{◌≡◌, ℕ, List, Option, Some, None, ⊤}
use Rattle.omi_calls.specs.CoreWords.{words_of_segments}
use Rattle.omi_calls.specs.Memory.{told_by}
use Rattle.omi_calls.specs.Told.{aligned_word_at}
use Rattle.omi_corefile.specs.declared.core_image.CoreImage.{CoreImage}
use Rattle.omi_layout.specs.Given.{GivesLayout}
use Rattle.omi_outside.specs.declared.files.Files as files
use Rattle.omi_page.specs.Borrowed.{told_of}
use Rattle.omi_page.specs.CoreFiles.{IsFault, IsFileOf}
use Rattle.omi_page.specs.declared.fault.PageError.{PageError}
use Rattle.omi_page.specs.declared.fault.PageError.TheVariants as page
use Rattle.omi_session.specs.Opened.{IsFresh}
use Rattle.omi_session.specs.Opening.{IsCause}
use Rattle.omi_word.specs.Words.{Words}
use Rattle.omi.specs.LowestFirst.{lowest_first}
use Rattle.omi.specs.declared.target.OpenCore.{OpenCore}
use Rattle.omi.specs.declared.fault.OpenError.{OpenError}
use Rattle.omi.specs.declared.fault.OpenError.TheVariants.{NoFile, NotRead, NoCore, NoElf, NoTarget, OutOfMemory}

-- the words of a core by their addresses, none at an unaligned address
abbrev pub words_of_core : CoreImage → Words
words_of_core core = aligned_word_at (words_of_segments core.segments)

-- the file is there, and stands for this core, be it a core file or an ELF core file
abbrev pub HoldsCore : Option (List ℕ) → CoreImage → Type 0
HoldsCore None core = ⊥
HoldsCore (Some bytes) core = IsFileOf bytes core

-- the file is there, and this is its first fault
abbrev pub HasFault : Option (List ℕ) → PageError → Type 0
HasFault None error = ⊥
HasFault (Some bytes) error = IsFault bytes error

-- The file stands for a core. The session's callbacks tell what this core tells, but with the lowest byte of a word first, its layout is the
-- one that the core's words give, and it holds no handle; the threads are the core's
pub record IsOpened {F H : Type 0} {g : files.Ghosts F} (content : Option (List ℕ)) (o : OpenCore F H g) : Type 0 where
  pub core : CoreImage
  pub holds : HoldsCore content core
  pub told : lowest_first (told_of o.session.table.calls.pages) ≡ lowest_first (told_by core)
  pub layout : GivesLayout (words_of_core core) o.session.layout
  pub fresh : IsFresh o.session.handles
  pub threads : o.threads ≡ core.contexts

-- the words of a core give no layout, and this error says why
abbrev pub IsNoTarget : CoreImage → OpenError → Type 0
IsNoTarget core (NoTarget rc) = IsCause (words_of_core core) rc
IsNoTarget core other = ⊥

-- why there is no session over the words of a core: a read failed, or they give no layout
abbrev pub IsUnopened : CoreImage → OpenError → Type 0
IsUnopened core NotRead = ⊤
IsUnopened core other = IsNoTarget core other

-- why a file wasn't opened, unless a read failed or memory ran out: there is none, its first fault, or that the words of the core for
-- which it stands give no layout
abbrev pub IsNotOpened : Option (List ℕ) → OpenError → Type 0
IsNotOpened content NoFile = content ≡ None
IsNotOpened content NotRead = ⊤
IsNotOpened content (NoCore at why) = HasFault content (page.Fault at why)
IsNotOpened content (NoElf at why) = HasFault content (page.Elf at why)
IsNotOpened content (NoTarget rc) = (core : CoreImage) × HoldsCore content core × IsCause (words_of_core core) rc
IsNotOpened content OutOfMemory = ⊤
