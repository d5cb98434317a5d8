-- The frame laws. An operation on a word of a record finds the word that the memory has there, and leaves the memory with that one word replaced: one equation for every operation.
use Rattle.std.specs.Prelude.{◌≡◌, ◌≢◌, ℕ, ◌+◌, ◌-◌, ◌%◌, ◌^◌, ◌<◌, ◌≤◌, IsTrue, List, length, slice_index, Some}
use Rattle.omi_word.specs.Memory.{IsWordOf, word_at, words_after, address_of, left_of}
use Rattle.omi_word.specs.declared.op.Op.{Op}
use Rattle.omi_word.specs.declared.op.Op.TheVariants.{Load, Store, Cas, Add, Sub}
use Rattle.omi_layout.specs.declared.limits.TheConstants.{FRONT_WORDS}
use Rattle.omi_layout.specs.Field.{kind_of}
use Rattle.omi_layout.specs.Place.{fits, image_words}
use Rattle.omi_layout.specs.Words.{IsGap}
use Rattle.omi_word.specs.Words.{words_of}
use Rattle.omi_layout.specs.Memory.{Memory, memory_of, with_word, IsRecordWord, word_address, found_word}

-- a word that is written is that word read
abbrev pub WrittenIsRead : Memory → Type 0
WrittenIsRead m = (creator kind slot f at word : ℕ)
    → with_word m creator kind slot f at word creator kind slot f at ≡ word

-- every other word stays
abbrev pub OthersStay : Memory → Type 0
OthersStay m = (creator kind slot f at word maker other there g to : ℕ)
    → (maker ≡ creator → other ≡ kind → there ≡ slot → g ≡ f → to ≡ at → ⊥)
    → with_word m creator kind slot f at word maker other there g to ≡ m maker other there g to

-- a word that is written as it is leaves the memory as it is
abbrev pub SameIsKept : Memory → Type 0
SameIsKept m = (creator kind slot f at : ℕ)
    → with_word m creator kind slot f at (m creator kind slot f at) ≡ m

-- a memory with one word replaced
pub record IsReplaced (m : Memory) : Type 0 where
  pub written : WrittenIsRead m
  pub others : OthersStay m
  pub kept : SameIsKept m

-- an operation is on this word of a record
pub record IsOnWord (w words : List ℕ) (op : Op) (creator slot f at : ℕ) : Type 0 where
  pub inside : IsWordOf words (address_of op)
  pub finds : word_at words (address_of op) ≡ memory_of w words creator (kind_of f) slot f at
  pub leaves : memory_of w (words_after words op)
      ≡ with_word (memory_of w words) creator (kind_of f) slot f at
      (left_of op (memory_of w words creator (kind_of f) slot f at))
  pub count : length (words_after words op) ≡ length words
  pub front : (i : ℕ) → i < FRONT_WORDS → slice_index (words_after words op) i ≡ slice_index words i
  pub gaps : (i : ℕ) → IsGap w i → slice_index (words_after words op) i ≡ slice_index words i

-- each operation at the address of a word of a record is on this word
abbrev pub AreFramed : List ℕ → Type 0
AreFramed w = (words : List ℕ) (op : Op) (creator slot f at : ℕ) → IsTrue (fits w (length words))
    → IsRecordWord w creator slot f at → address_of op ≡ word_address w creator slot f at
    → IsOnWord w words op creator slot f at

-- in an image that has the words of the layout each word of a record is mapped, and is the word that the memory has there
abbrev pub AreMapped : List ℕ → Type 0
AreMapped w = (words : List ℕ) (creator slot f at : ℕ) → image_words w ≤ length words
    → IsRecordWord w creator slot f at
    → found_word w (words_of words) creator slot f at
    ≡ Some (memory_of w words creator (kind_of f) slot f at)

-- an image that the layout fits has the words of the layout
abbrev pub FittedHas : List ℕ → Type 0
FittedHas w = (n : ℕ) → IsTrue (fits w n) → image_words w ≤ n

-- the word of a record, and the memory with this word replaced by another
abbrev pub word_in : List ℕ → List ℕ → ℕ → ℕ → ℕ → ℕ → ℕ
word_in w words creator slot f at = memory_of w words creator (kind_of f) slot f at

abbrev pub replaced : List ℕ → List ℕ → ℕ → ℕ → ℕ → ℕ → ℕ → Memory
replaced w words creator slot f at word =
    with_word (memory_of w words) creator (kind_of f) slot f at word

-- what each operation at the address `a` of a word of a record leaves
pub record IsLeft (w words : List ℕ) (creator slot f at a : ℕ) : Type 0 where
  pub load : memory_of w (words_after words (Load a)) ≡ memory_of w words
  pub store : (new : ℕ) → memory_of w (words_after words (Store a new))
      ≡ replaced w words creator slot f at new
  pub exchanged : (new : ℕ)
      → memory_of w (words_after words (Cas a (word_in w words creator slot f at) new))
      ≡ replaced w words creator slot f at new
  pub refused : (old new : ℕ) → word_in w words creator slot f at ≢ old
      → memory_of w (words_after words (Cas a old new)) ≡ memory_of w words
  pub added : (by : ℕ) → memory_of w (words_after words (Add a by))
      ≡ replaced w words creator slot f at ((word_in w words creator slot f at + by) % 2 ^ 64)
  pub subtracted : (by : ℕ) → memory_of w (words_after words (Sub a by))
      ≡ replaced w words creator slot f at
      ((word_in w words creator slot f at + (2 ^ 64 - by)) % 2 ^ 64)

-- one equation for each operation
abbrev pub AreLeft : List ℕ → Type 0
AreLeft w = (words : List ℕ) (creator slot f at : ℕ) → IsTrue (fits w (length words))
    → IsRecordWord w creator slot f at
    → IsLeft w words creator slot f at (word_address w creator slot f at)
