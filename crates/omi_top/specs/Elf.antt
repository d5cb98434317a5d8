-- What `elf` makes of a core, and what it prints.
use Rattle.std.specs.Prelude.{◌≡◌, ℕ, List, [], ◌∷◌, ◌++◌, length, codes}
use Rattle.std.specs.Fmt.{decimal}
use Rattle.omi_corefile.specs.Spelling.{Core}
use Rattle.omi_corefile.specs.declared.core_image.CoreImage.{CoreImage}
use Rattle.omi_elf.specs.Spelling.{elf_bytes}

-- the line that is printed: how many segments of memory the ELF file has
abbrev pub elf_line : ℕ → List ℕ
elf_line segments = codes "elf " ++ (decimal segments ++ 10 ∷ [])

-- a file is a core, another is the ELF file that is written of this core, and the line tells of its segments
pub record IsElfCopy (bytes copy line : List ℕ) : Type 0 where
  pub core : CoreImage
  pub spelled : Core bytes core
  pub copied : copy ≡ elf_bytes core
  pub says : line ≡ elf_line (length core.segments)
