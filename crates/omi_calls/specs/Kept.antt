-- What a table of callbacks keeps, and what it knows of it.
use Rattle.std.specs.Prelude.{◌≡◌, ℕ, ◌<◌, List, length, slice_index, Some, ◌≤◌}
use Rattle.omi_corefile.specs.ByteOrder.{number_of}
use Rattle.omi_calls.specs.Told.{Told}

-- the callbacks, the order of the bytes of a word, and the conversion
pub record Kept (C F : Type 0) : Type 0 where
  pub calls : C
  pub order : ℕ
  pub to_host : F

-- eight bytes, as an array holds them
pub record IsEightBytes (bytes : List ℕ) : Type 0 where
  pub eight : length bytes ≡ 8
  pub are_bytes : (k : ℕ) → slice_index bytes k < 256

-- the conversion takes every eight bytes
abbrev pub TakesAll : (List ℕ → Type 0) → Type 0
TakesAll takes = (bytes : List ℕ) → IsEightBytes bytes → takes bytes

-- the conversion answers the number of eight bytes in this order
abbrev pub GivesNumbers : (List ℕ → ℕ → Type 0) → ℕ → Type 0
GivesNumbers gives order =
    (bytes : List ℕ) (n : ℕ) → IsEightBytes bytes → gives bytes n → n ≡ number_of order bytes

-- the order is 0 or 1, and is the one that is told
pub record IsOrderOf (told : Told) (order : ℕ) : Type 0 where
  pub known : order ≤ 1
  pub agrees : (other : ℕ) → told.order ≡ Some other → other ≡ order

-- what a table knows of its parts
pub record KeepsTable (told : Told) (takes : List ℕ → Type 0) (gives : List ℕ → ℕ → Type 0)
    (order : ℕ) : Type 0 where
  pub is_order : IsOrderOf told order
  pub takes_all : TakesAll takes
  pub gives_numbers : GivesNumbers gives order
