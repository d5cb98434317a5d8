-- Reading a core file from its front. Each field is judged once it is whole: the first one that isn't whole or isn't allowed is the fault, with its place.
use Rattle.std.specs.Prelude.{◌≡◌, ℕ, zero, suc, ◌+◌, ◌-◌, ◌<◌, Bool, ◌&&◌, ◌==◌, nat_eq, nat_lt, nat_le, if◌then◌else◌, List, [], ◌∷◌, length, take, drop, slice_index, codes, Result, Ok, Err}
use Rattle.std.specs.List.{starts_with}
use Rattle.std.specs.Int.{Width, w16, w32, w64, byte_len, from_le_bytes}
use Rattle.omi_corefile.specs.declared.segment.Segment.{Segment}
use Rattle.omi_corefile.specs.declared.fault.CoreFault.{CoreFault}
use Rattle.omi_corefile.specs.declared.fault.CoreFault.TheVariants.{BadMagic, Version, Order, Short, TooLarge, SegmentOrder, BadContext, Trailing}
use Rattle.omi_corefile.specs.ByteOrder.{is_order, number_of}
use Rattle.omi_corefile.specs.Limits.{is_start, end_of}
use Rattle.omi_word.specs.declared.limits.TheConstants.{FIRST_ADDRESS}
use Rattle.omi_corefile.specs.declared.limits.TheConstants.{MOST_CONTEXTS, MOST_SEGMENTS, MOST_SEGMENT_WORDS}

-- a place and what is wrong there
abbrev pub ReadRefusal : Type 0
ReadRefusal = ℕ × CoreFault

infixl 10 ◌>>=◌
abbrev pub ◌>>=◌ : {A B : Type 0} → Result A ReadRefusal → (A → Result B ReadRefusal) → Result B ReadRefusal
(Ok x) >>= f = f x
(Err e) >>= f = Err e

-- What follows reads a file of `len` bytes, of which `bytes` are left. A step gives what stands in front and the bytes after it.
abbrev pub ReadStep : Type 0 → Type 0
ReadStep A = Result (A × List ℕ) ReadRefusal

-- the place of what is left
abbrev pub place_in_file : ℕ → List ℕ → ℕ
place_in_file len bytes = len - length bytes

-- the file ends before a field is whole
abbrev pub short : ℕ → ReadRefusal
short len = (len, Short len)

-- a number of one byte
abbrev pub byte_at : ℕ → List ℕ → ReadStep ℕ
byte_at len [] = Err (short len)
byte_at len (b ∷ bytes) = Ok (b, bytes)

-- so many bytes, and what they tell
abbrev pub value_at : ℕ → (List ℕ → ℕ) → ℕ → List ℕ → ReadStep ℕ
value_at count value len bytes = if nat_lt (length bytes) count then Err (short len)
    else Ok (value (take count bytes), drop count bytes)

-- a number of a few bytes, the lowest first
abbrev pub number_at : Width → ℕ → List ℕ → ReadStep ℕ
number_at w len bytes = value_at (byte_len w) (from_le_bytes w) len bytes

-- a word in this order
abbrev pub word_at : ℕ → ℕ → List ℕ → ReadStep ℕ
word_at order len bytes = value_at 8 (number_of order) len bytes

-- a number that was read is judged by a test; where it fails, the fault is told the number and its place
abbrev pub judged : (ℕ → Bool) → (ℕ → ℕ → CoreFault) → ℕ → ReadStep ℕ → ReadStep ℕ
judged allowed fault at read = read >>= λ n. if allowed n.0 then Ok n else Err (at, fault n.0 at)

-- the name of the format
unfoldable pub magic_at : ℕ → List ℕ → Result (List ℕ) ReadRefusal
magic_at len bytes = if nat_lt (length bytes) 8 then Err (short len)
    else if starts_with nat_eq bytes (codes "OMPDCOR1") then Ok (drop 8 bytes)
    else Err (0, BadMagic)

-- the version is 1
abbrev pub version_at : ℕ → List ℕ → ReadStep ℕ
version_at len bytes =
    judged (λ v. v == 1) (λ v at. Version v) (place_in_file len bytes) (byte_at len bytes)

-- the order is one of the two
abbrev pub order_at : ℕ → List ℕ → ReadStep ℕ
order_at len bytes = judged is_order (λ b at. Order b) (place_in_file len bytes) (byte_at len bytes)

-- no more contexts than a core has
abbrev pub context_count_at : ℕ → List ℕ → ReadStep ℕ
context_count_at len bytes =
    judged (λ n. nat_le n MOST_CONTEXTS) (λ n at. BadContext at) (place_in_file len bytes)
    (number_at w16 len bytes)

-- no more segments than a core has
abbrev pub segment_count_at : ℕ → List ℕ → ReadStep ℕ
segment_count_at len bytes =
    judged (λ n. nat_le n MOST_SEGMENTS) (λ n at. SegmentOrder at) (place_in_file len bytes)
    (number_at w32 len bytes)

-- a native id is at least `least`
abbrev pub id_at : ℕ → ℕ → List ℕ → ReadStep ℕ
id_at len least bytes =
    judged (nat_le least) (λ n at. BadContext at) (place_in_file len bytes) (number_at w64 len bytes)

-- a start address is at least `least`, and keeps the other rules
abbrev pub start_at : ℕ → ℕ → List ℕ → ReadStep ℕ
start_at len least bytes =
    judged (is_start least) (λ n at. SegmentOrder at) (place_in_file len bytes) (number_at w64 len bytes)

-- a segment has a word, and no more than the `room` that is left of the limit of all segments
abbrev pub word_count_at : ℕ → ℕ → List ℕ → ReadStep ℕ
word_count_at len room bytes =
    judged (λ n. nat_lt 0 n && nat_le n room)
    (λ n at. if n == 0 then SegmentOrder at else TooLarge n) (place_in_file len bytes)
    (number_at w64 len bytes)

-- so many in a row, each read by a state that the ones before it leave
unfoldable pub row_at : {S A : Type 0} → (S → List ℕ → ReadStep A) → (S → A → S) → ℕ → S → List ℕ
    → ReadStep (List A)
row_at one next zero s bytes = Ok ([], bytes)
row_at one next (suc count) s bytes = do
  first ← one s bytes
  others ← row_at one next count (next s first.0) first.1
  Ok (first.0 ∷ others.0, others.1)

-- so many native ids, each above the one before
abbrev pub contexts_at : ℕ → ℕ → List ℕ → ReadStep (List ℕ)
contexts_at len count bytes = row_at (id_at len) (λ least id. id + 1) count 0 bytes

-- so many words in this order
abbrev pub words_at : ℕ → ℕ → ℕ → List ℕ → ReadStep (List ℕ)
words_at len order count bytes = row_at {S = ℕ} (λ s. word_at order len) (λ s word. s) count 0 bytes

-- what the segments before leave: the least start address, and the room for words
abbrev pub Left : Type 0
Left = ℕ × ℕ

-- a segment after those that leave this, its words in this order
unfoldable pub segment_at : ℕ → ℕ → Left → List ℕ → ReadStep Segment
segment_at len order left bytes = do
  start ← start_at len left.0 bytes
  count ← word_count_at len left.1 start.1
  words ← words_at len order count.0 count.1
  Ok (record { start = start.0; words = words.0 }, words.1)

-- what a segment leaves: the next one starts above its end
abbrev pub left_after : Left → Segment → Left
left_after left s = (end_of s.start (length s.words) + 1, left.1 - length s.words)

-- so many segments
abbrev pub segments_at : ℕ → ℕ → ℕ → List ℕ → ReadStep (List Segment)
segments_at len order count bytes =
    row_at (segment_at len order) left_after count (FIRST_ADDRESS, MOST_SEGMENT_WORDS) bytes

-- what a header says: the order, and how many contexts and segments follow
pub record Header : Type 0 where
  pub order : ℕ
  pub contexts : ℕ
  pub segments : ℕ

unfoldable pub header_at : ℕ → List ℕ → ReadStep Header
header_at len bytes = do
  magic ← magic_at len bytes
  version ← version_at len magic
  order ← order_at len version.1
  contexts ← context_count_at len order.1
  segments ← segment_count_at len contexts.1
  Ok (record { order = order.0; contexts = contexts.0; segments = segments.0 }, segments.1)

-- what a file holds
pub record Parts : Type 0 where
  pub order : ℕ
  pub contexts : List ℕ
  pub segments : List Segment

-- what stands before the end
unfoldable pub parts_at : ℕ → List ℕ → ReadStep Parts
parts_at len bytes = do
  counts ← header_at len bytes
  contexts ← contexts_at len counts.0.contexts counts.1
  segments ← segments_at len counts.0.order counts.0.segments contexts.1
  Ok (record { order = counts.0.order; contexts = contexts.0; segments = segments.0 }, segments.1)

-- bytes follow the last segment
abbrev pub trailing : ℕ → List ℕ → ReadRefusal
trailing len bytes = (place_in_file len bytes, Trailing (place_in_file len bytes))

-- the whole file: nothing follows the last segment
unfoldable pub reading : List ℕ → Result Parts ReadRefusal
reading bytes = do
  parts ← parts_at (length bytes) bytes
  if length parts.1 == 0 then Ok parts.0 else Err (trailing (length bytes) parts.1)

-- the file is refused with this fault at this place
abbrev pub CoreRefused : List ℕ → ℕ → CoreFault → Type 0
CoreRefused bytes at why = reading bytes ≡ Err (at, why)

-- each is a byte
abbrev pub AreBytes : List ℕ → Type 0
AreBytes bytes = (k : ℕ) → slice_index bytes k < 256
