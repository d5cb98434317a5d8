-- A file that spells a core up to a field, and holds something else there. Whatever follows the field is never read.
use Rattle.std.specs.Prelude.{◌⊎◌, ◌≢◌, ◌<◌, ◌≤◌, ℕ, ◌+◌, ◌*◌, ◌%◌, List, ◌++◌, length, take}
use Rattle.omi_corefile.specs.declared.segment.Segment.{Segment}
use Rattle.omi_corefile.specs.declared.core_image.CoreImage.{CoreImage}
use Rattle.omi_corefile.specs.declared.fault.CoreFault.{CoreFault}
use Rattle.omi_corefile.specs.Limits.{total_words}
use Rattle.omi_word.specs.declared.limits.TheConstants.{FIRST_ADDRESS, MEMORY_END}
use Rattle.omi_corefile.specs.Spelling.{spelling}
use Rattle.omi_corefile.specs.Refusals.{CoreRefused}

-- With this field at a place of the core's spelling, and any bytes behind it, the fault of the file is this one, at that place.
abbrev pub IsFaultAt : CoreImage → ℕ → List ℕ → CoreFault → Type 0
IsFaultAt c at field why = (more : List ℕ)
    → CoreRefused (take at (spelling c) ++ (field ++ more)) at why

-- the place of a native id behind so many others
abbrev pub id_place : ℕ → ℕ
id_place ids = 16 + 8 * ids

-- the place of a segment's start address, behind these segments
abbrev pub start_place : CoreImage → List Segment → ℕ
start_place c before = id_place (length c.contexts) + 16 * length before + 8 * total_words before

-- the place of its number of words
abbrev pub count_place : CoreImage → List Segment → ℕ
count_place c before = start_place c before + 8

-- no segment of any core starts at this address
abbrev pub NeverStarts : ℕ → Type 0
NeverStarts n = (n % 8 ≢ 0) ⊎ ((n < FIRST_ADDRESS) ⊎ (MEMORY_END ≤ n))
