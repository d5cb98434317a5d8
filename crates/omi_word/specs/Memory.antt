-- Word memory: a memory is a list of words, of which word k has the byte address 0x10000 + 8k. An operation finds one word, and leaves a list in which at most that word has changed.
use Rattle.std.specs.Prelude.{◌≡◌, ◌==◌, ℕ, ◌+◌, ◌-◌, ◌*◌, ◌/◌, ◌%◌, ◌^◌, ◌<◌, ◌≤◌, List, length, slice_index, slice_set, if◌then◌else◌}
use Rattle.omi_word.specs.declared.limits.TheConstants.{FIRST_ADDRESS}
use Rattle.omi_word.specs.declared.op.Op.{Op}
use Rattle.omi_word.specs.declared.op.Op.TheVariants.{Load, Store, Cas, Add, Sub}

-- the byte address of a word, by its place in the list
abbrev pub address_at : ℕ → ℕ
address_at place = FIRST_ADDRESS + 8 * place

-- the byte address of the word that an operation is on
abbrev pub address_of : Op → ℕ
address_of (Load at) = at
address_of (Store at new) = at
address_of (Cas at old new) = at
address_of (Add at by) = at
address_of (Sub at by) = at

-- the word that an operation leaves where it finds `before`
abbrev pub left_of : Op → ℕ → ℕ
left_of (Load at) before = before
left_of (Store at new) before = new
left_of (Cas at old new) before = if before == old then new else before
left_of (Add at by) before = (before + by) % 2 ^ 64
left_of (Sub at by) before = (before + (2 ^ 64 - by)) % 2 ^ 64

-- the place in the list of the word at an address
abbrev pub place_of : ℕ → ℕ
place_of address = (address - FIRST_ADDRESS) / 8

-- a word stands at this address
pub record IsWordOf (words : List ℕ) (address : ℕ) : Type 0 where
  pub aligned : address % 8 ≡ 0
  pub above : FIRST_ADDRESS ≤ address
  pub below : place_of address < length words

-- the word at an address
abbrev pub word_at : List ℕ → ℕ → ℕ
word_at words address = slice_index words (place_of address)

-- the words after an operation
abbrev pub words_after : List ℕ → Op → List ℕ
words_after words op =
    slice_set words (place_of (address_of op)) (left_of op (word_at words (address_of op)))
