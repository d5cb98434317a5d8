-- Where the records lie: their addresses, and the words that the arenas fill.
use Rattle.std.specs.Prelude.{◌≡◌, ℕ, ◌+◌, ◌*◌, ◌<◌, ◌&&◌, Bool, nat_le, max, List, Option, Some, IfSome}
use Rattle.omi_word.specs.Memory.{place_of}
use Rattle.omi_layout.specs.declared.limits.TheConstants.{FRONT_WORDS}
use Rattle.omi_layout.specs.Table.{place, size, records, per_thread, makers, extent}

-- the address of a record, by its number in the arena
abbrev pub record_address : List ℕ → ℕ → ℕ → ℕ
record_address w p index = place w p + 8 * (index * size w p)

-- the number in the arena of the record in a slot of the thread that makes it
abbrev pub index_of : List ℕ → ℕ → ℕ → ℕ → ℕ
index_of w p creator slot = creator * per_thread w p + slot

-- the address of the record in a slot of the thread that makes it
unfoldable pub slot_address : List ℕ → ℕ → ℕ → ℕ → ℕ
slot_address w p creator slot = record_address w p (index_of w p creator slot)

-- a thread that makes records, and one of its slots
pub record IsSlot (w : List ℕ) (p creator slot : ℕ) : Type 0 where
  pub made_by : creator < makers w p
  pub within : slot < per_thread w p

-- what is found at an address: the slot whose record begins there, and None exactly where there is none
pub record IsSlotAt (w : List ℕ) (p address : ℕ)
    (found : Option (record { 0 : ℕ; 1 : ℕ })) : Type 0 where
  pub is : IfSome found (λ at. IsSlot w p at.0 at.1 × (address ≡ slot_address w p at.0 at.1))
  pub all : (creator slot : ℕ) → IsSlot w p creator slot → address ≡ slot_address w p creator slot
      → found ≡ Some (record { 0 = creator; 1 = slot })

-- the same of a record's number in its arena
pub record IsRecordAt (w : List ℕ) (p address : ℕ) (found : Option ℕ) : Type 0 where
  pub is : IfSome found (λ index. (index < records w p) × (address ≡ record_address w p index))
  pub all : (index : ℕ) → index < records w p → address ≡ record_address w p index
      → found ≡ Some index

-- the place in the image of the first word of an arena
abbrev pub first_word : List ℕ → ℕ → ℕ
first_word w p = place_of (place w p)

-- the place in the image behind the last word of an arena
abbrev pub arena_end : List ℕ → ℕ → ℕ
arena_end w p = first_word w p + extent w p

-- an arena lies behind the tables, and inside so many words
abbrev pub arena_fits : List ℕ → ℕ → ℕ → Bool
arena_fits w n p = nat_le FRONT_WORDS (first_word w p) && nat_le (arena_end w p) n

-- all arenas do
abbrev pub fits : List ℕ → ℕ → Bool
fits w n = (arena_fits w n 1 && arena_fits w n 2) && (arena_fits w n 3 && arena_fits w n 4)

-- the least number of words that has the tables, and in which every arena ends
abbrev pub image_words : List ℕ → ℕ
image_words w =
    max (max FRONT_WORDS (arena_end w 1)) (max (arena_end w 2) (max (arena_end w 3) (arena_end w 4)))
