-- A record that is filled: words at places of its fields, stored one after the other.
use Rattle.std.specs.Prelude.{◌≡◌, ℕ, ◌<◌, List, [], ◌∷◌, length, slice_index}
use Rattle.omi_layout.specs.declared.field.Field.{Field}
use Rattle.omi_layout.specs.declared.limits.TheConstants.{FRONT_WORDS}
use Rattle.omi_layout.specs.Field.{kind_of}
use Rattle.omi_layout.specs.Named.{number}
use Rattle.omi_layout.specs.Table.{width}
use Rattle.omi_layout.specs.Words.{IsGap}
use Rattle.omi_layout.specs.Memory.{Rec, memory_of, with_word_in}

-- a field, a place in it, and the word to be stored there
abbrev pub Entry : Type 0
Entry = record { 0 : Field; 1 : ℕ; 2 : ℕ }

-- an entry is of this kind of record
abbrev pub IsEntryOf : List ℕ → ℕ → Entry → Type 0
IsEntryOf w kind e = (kind_of (number e.0) ≡ kind) × (e.1 < width w (number e.0))

-- a record with words stored one after the other
abbrev pub filled : Rec → List Entry → Rec
filled r [] = r
filled r (e ∷ es) = filled (with_word_in r (number e.0) e.1 e.2) es

-- nothing but the first record of a kind of a thread changes
pub record KeepsOthers (w old new : List ℕ) (creator kind : ℕ) : Type 0 where
  pub others : (c k s : ℕ) → (c ≡ creator → k ≡ kind → s ≡ 0 → ⊥)
      → memory_of w new c k s ≡ memory_of w old c k s
  pub count : length new ≡ length old
  pub front : (i : ℕ) → i < FRONT_WORDS → slice_index new i ≡ slice_index old i
  pub gaps : (i : ℕ) → IsGap w i → slice_index new i ≡ slice_index old i

-- this record is filled
pub record IsFilled (w old new : List ℕ) (creator kind : ℕ) (plan : List Entry) : Type 0 where
  pub here : memory_of w new creator kind 0 ≡ filled (memory_of w old creator kind 0) plan
  pub keeps : KeepsOthers w old new creator kind

-- nothing but the first records of a kind change
pub record KeepsAll (w old new : List ℕ) (kind : ℕ) : Type 0 where
  pub others : (c k s : ℕ) → (k ≡ kind → s ≡ 0 → ⊥)
      → memory_of w new c k s ≡ memory_of w old c k s
  pub count : length new ≡ length old
  pub front : (i : ℕ) → i < FRONT_WORDS → slice_index new i ≡ slice_index old i
  pub gaps : (i : ℕ) → IsGap w i → slice_index new i ≡ slice_index old i
