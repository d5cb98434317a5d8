-- The words of the records as a function: by the thread that made the record, kind of record, slot, field and place in the field. What is kept of a record is said over this function, and no address stands in it.
use Rattle.std.specs.Prelude.{◌==◌, ℕ, ◌+◌, ◌*◌, ◌<◌, ◌&&◌, Bool, nat_lt, List, slice_index, Option, if◌then◌else◌}
use Rattle.omi_layout.specs.declared.limits.TheConstants.{FIELDS}
use Rattle.omi_layout.specs.Field.{IsField, kind_of}
use Rattle.omi_layout.specs.Table.{width, makers, per_thread, offset}
use Rattle.omi_layout.specs.Place.{index_of, slot_address, IsSlot}
use Rattle.omi_layout.specs.Words.{word_place}
use Rattle.omi_word.specs.Words.{Words}

-- the words of a record, by field and place
abbrev pub Rec : Type 0
Rec = ℕ → ℕ → ℕ

-- the records that a thread made, by kind and slot
abbrev pub MadeRecords : Type 0
MadeRecords = ℕ → ℕ → Rec

-- the words of all records, by the thread that made the record. The runtime record is made by thread 0, and each thread's own record by itself, both in slot 0
abbrev pub Memory : Type 0
Memory = ℕ → MadeRecords

-- one place of a function is replaced
abbrev pub replace_at : {A : Type 0} → (ℕ → A) → ℕ → A → ℕ → A
replace_at m i x = λ j. if j == i then x else m j

-- a record with one word replaced
abbrev pub with_word_in : Rec → ℕ → ℕ → ℕ → Rec
with_word_in r f at word = replace_at r f (replace_at (r f) at word)

-- the records of a thread with one record replaced
abbrev pub with_record : MadeRecords → ℕ → ℕ → Rec → MadeRecords
with_record made kind slot r = replace_at made kind (replace_at (made kind) slot r)

-- a memory with one word replaced
abbrev pub with_word : Memory → ℕ → ℕ → ℕ → ℕ → ℕ → ℕ → Memory
with_word m creator kind slot f at word =
    replace_at m creator
    (with_record (m creator) kind slot (with_word_in (m creator kind slot) f at word))

-- there is such a word: a field of a record of its kind in a slot of a thread, and a place in the field
pub record IsRecordWord (w : List ℕ) (creator slot f at : ℕ) : Type 0 where
  pub field : IsField f
  pub record_slot : IsSlot w (kind_of f) creator slot
  pub within : at < width w f

-- the same as a test, for a kind of record that may be another than that of the field
abbrev pub is_record_word : List ℕ → ℕ → ℕ → ℕ → ℕ → ℕ → Bool
is_record_word w creator kind slot f at =
    (nat_lt 0 f && nat_lt f (FIELDS + 1))
    && (kind == kind_of f
    && (nat_lt creator (makers w (kind_of f))
    && (nat_lt slot (per_thread w (kind_of f)) && nat_lt at (width w f))))

-- the address of a word of a record
unfoldable pub word_address : List ℕ → ℕ → ℕ → ℕ → ℕ → ℕ
word_address w creator slot f at =
    slot_address w (kind_of f) creator slot + 8 * (offset w f + at)

-- the memory that the words of an image are, where the layout fits it. 0 stands where there is no such word
unfoldable pub memory_of : List ℕ → List ℕ → Memory
memory_of w words = λ creator kind slot f at.
    if is_record_word w creator kind slot f at
    then slice_index words (word_place w f (index_of w (kind_of f) creator slot) at)
    else 0

-- the word of a record in any memory, which may have holes: None where the word isn't mapped
abbrev pub found_word : List ℕ → Words → ℕ → ℕ → ℕ → ℕ → Option ℕ
found_word w words creator slot f at = words (word_address w creator slot f at)
