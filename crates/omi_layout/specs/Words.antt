-- The words of the records, and their laws: each word has a place of its own, in an image that the layout fits, behind the tables.
use Rattle.std.specs.Prelude.{◌≡◌, ◌≢◌, ℕ, ◌+◌, ◌*◌, ◌<◌, ◌≤◌, IsTrue, List}
use Rattle.omi_layout.specs.declared.limits.TheConstants.{FRONT_WORDS}
use Rattle.omi_layout.specs.Field.{IsField, IsKind, kind_of}
use Rattle.omi_layout.specs.Table.{size, records, offset, width}
use Rattle.omi_layout.specs.Place.{first_word, fits, IsSlot, index_of, slot_address}

-- the place in an image of word `at` of field `f` of the record with this number in its arena
abbrev pub word_place : List ℕ → ℕ → ℕ → ℕ → ℕ
word_place w f index at =
    first_word w (kind_of f) + (index * size w (kind_of f) + (offset w f + at))

-- there is such a word
pub record IsWord (w : List ℕ) (f index at : ℕ) : Type 0 where
  pub field : IsField f
  pub made : index < records w (kind_of f)
  pub within : at < width w f

-- two words are the same
pub record IsSame (f index at g other there : ℕ) : Type 0 where
  pub field : f ≡ g
  pub record_number : index ≡ other
  pub element : at ≡ there

-- two words of different fields, records or elements have different places
abbrev pub AreApart : List ℕ → Type 0
AreApart w = (f index at g other there : ℕ) → IsWord w f index at → IsWord w g other there
    → word_place w f index at ≡ word_place w g other there → IsSame f index at g other there

-- each word is in an image that the layout fits, behind the tables
abbrev pub AreInside : List ℕ → Type 0
AreInside w = (n f index at : ℕ) → IsTrue (fits w n) → IsWord w f index at
    → record {
      behind : FRONT_WORDS ≤ word_place w f index at;
      inside : word_place w f index at < n;
    }

-- two slots of an arena have different records
abbrev pub SlotsApart : List ℕ → Type 0
SlotsApart w = (p creator slot other there : ℕ) → IsSlot w p creator slot → IsSlot w p other there
    → index_of w p creator slot ≡ index_of w p other there
    → record { maker : creator ≡ other; place : slot ≡ there }

-- and different addresses
abbrev pub AddressesApart : List ℕ → Type 0
AddressesApart w = (p creator slot other there : ℕ) → IsKind p → IsSlot w p creator slot
    → IsSlot w p other there → slot_address w p creator slot ≡ slot_address w p other there
    → record { maker : creator ≡ other; place : slot ≡ there }

-- the address of a record is not 0, which stands for none
abbrev pub NoneIsNull : List ℕ → Type 0
NoneIsNull w = (p creator slot : ℕ) → IsKind p → 0 < slot_address w p creator slot

-- a place behind the tables at which no word of a record stands
pub record IsGap (w : List ℕ) (place : ℕ) : Type 0 where
  pub behind : FRONT_WORDS ≤ place
  pub free : (f index at : ℕ) → IsWord w f index at → word_place w f index at ≢ place
