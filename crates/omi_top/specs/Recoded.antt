-- What `show` makes of files that stand for cores with the same words: the same.
use Rattle.std.specs.Prelude.{◌≡◌, ◌↔◌, ℕ, List, Some}
use Rattle.omi_corefile.specs.Spelling.{spelling}
use Rattle.omi_corefile.specs.declared.core_image.CoreImage.{CoreImage}
use Rattle.omi_elf.specs.ElfCore.{ElfCore}
use Rattle.omi_frame.specs.Verb.{Answer}
use Rattle.omi_top.specs.verbs.Show.{IsShowAnswer}
use Rattle.omi_top.specs.Elf.{IsElfCopy}
use Rattle.omi_top.specs.Cores.{AreAlike}
use Rattle.omi_top.specs.Recode.{IsRecoded}

-- two files have the same answers of `show`: the same report, or the same refusal
abbrev pub HaveOneAnswer : List ℕ → List ℕ → Type 0
HaveOneAnswer bytes other = (a : Answer) → IsShowAnswer (Some bytes) a ↔ IsShowAnswer (Some other) a

abbrev pub AlikeShowAlike : Type 0
AlikeShowAlike = (bytes other : List ℕ) → AreAlike bytes other → HaveOneAnswer bytes other

-- so have an ELF file and the core file of the core that it stands for, and a core and the ELF file that `elf` writes of it
abbrev pub ElfShowsAlike : Type 0
ElfShowsAlike = (bytes : List ℕ) (core : CoreImage) → ElfCore bytes core
    → HaveOneAnswer bytes (spelling core)

abbrev pub ElfCopyShowsAlike : Type 0
ElfCopyShowsAlike =
    (bytes copy line : List ℕ) → IsElfCopy bytes copy line → HaveOneAnswer bytes copy

-- and a core and its copy in either order
abbrev pub RecodedShowsAlike : Type 0
RecodedShowsAlike = (order : ℕ) (bytes copy : List ℕ) → IsRecoded order bytes copy → (a : Answer)
    → IsShowAnswer (Some bytes) a ↔ IsShowAnswer (Some copy) a

-- and each has one answer
abbrev pub ShowsOnce : Type 0
ShowsOnce = (bytes : List ℕ) (a b : Answer) → IsShowAnswer (Some bytes) a
    → IsShowAnswer (Some bytes) b → a ≡ b
