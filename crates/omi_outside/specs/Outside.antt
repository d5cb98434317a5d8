-- What the outside tells of its bytes, what a call changes of that, and when a call may fail.
use Rattle.std.specs.Prelude.{◌≡◌, ◌⊎◌, ℕ, ◌+◌, ◌-◌, ◌^◌, ◌*◌, ◌<◌, ◌≤◌, min, List, ◌++◌, length, slice_index, take, Option, Some, None}
use Rattle.omi_outside.specs.declared.limits.TheConstants.{PIECE}

-- Files. What is told of one name: nothing (None), that there is no such file (Some None), or its
-- bytes.
abbrev pub Told : Type 0
Told = Option (Option (List ℕ))

-- Each number is a byte.
abbrev pub AreBytes : List ℕ → Type 0
AreBytes bytes = (k : ℕ) → slice_index bytes k < 256

-- The length of a file, 0 where there is none.
abbrev pub content_len : Option (List ℕ) → ℕ
content_len None = 0
content_len (Some bytes) = length bytes

-- What is told of a name once it holds these bytes. An untold name stays untold.
abbrev pub holding : Told → List ℕ → Told
holding None bytes = None
holding (Some _) bytes = Some (Some bytes)

-- What is told of a name once these bytes were added at its end.
abbrev pub extended : Told → List ℕ → Told
extended None bytes = None
extended (Some None) bytes = Some (Some bytes)
extended (Some (Some old)) bytes = Some (Some (old ++ bytes))

-- The first pieces of some bytes. Each piece has PIECE bytes, but the last may be shorter.
abbrev pub pieces : ℕ → List ℕ → List ℕ
pieces count bytes = take (count * PIECE) bytes

-- The file is as before, or holds the first pieces of these bytes.
abbrev pub IsPartly : Told → Told → List ℕ → Type 0
IsPartly old new bytes = (new ≡ old) ⊎ ((count : ℕ) × (new ≡ holding old (pieces count bytes)))

-- The file is as before, or holds whole pieces of these bytes, and not all of the bytes.
abbrev pub IsCut : Told → Told → List ℕ → Type 0
IsCut old new bytes =
    (new ≡ old)
    ⊎ ((count : ℕ) × (count * PIECE < length bytes) × (new ≡ holding old (pieces count bytes)))

-- Sinks. What is told once these bytes were put. An untold sink stays untold.
abbrev pub put_on : Option (List ℕ) → List ℕ → Option (List ℕ)
put_on None bytes = None
put_on (Some old) bytes = Some (old ++ bytes)

-- The first pieces of these bytes were put. Where nothing was, they are no pieces.
abbrev pub IsPartlyPut : List ℕ → Option (List ℕ) → Option (List ℕ) → Type 0
IsPartlyPut bytes old new = (count : ℕ) × (new ≡ put_on old (pieces count bytes))

-- Whole pieces of these bytes were put, and not all of the bytes.
abbrev pub IsPutCut : List ℕ → Option (List ℕ) → Option (List ℕ) → Type 0
IsPutCut bytes old new =
    (count : ℕ) × (count * PIECE < length bytes) × (new ≡ put_on old (pieces count bytes))

-- A count after one more. It stays at the greatest number of 64 bits.
abbrev pub one_more : ℕ → ℕ
one_more count = min (count + 1) (2 ^ 64 - 1)

-- A count rose, or stands at the greatest number of 64 bits.
abbrev pub Rose : ℕ → ℕ → Type 0
Rose before now = one_more before ≤ now

-- A count never falls, and a failure comes only where it rose.
pub record HasCause (before now : ℕ) (failure : Type 0) : Type 0 where
  pub later : before ≤ now
  pub failed : failure → Rose before now
