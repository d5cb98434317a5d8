-- What is told of a file of which pieces are read.
use Rattle.std.specs.Prelude.{◌≡◌, ℕ, List, Option, Some}
use Rattle.omi_outside.specs.Outside.{Told, content_len}

-- the file holds these bytes
abbrev pub Holds : Told → List ℕ → Type 0
Holds told bytes = told ≡ Some (Some bytes)

-- the file has this many bytes
abbrev pub IsLength : Told → ℕ → Type 0
IsLength told len = (content : Option (List ℕ)) → told ≡ Some content → content_len content ≡ len
