-- The front of a file says of its header what the whole file says.
use Rattle.std.proofs.Common.{◌≡◌, ℕ, ◌+◌, ◌≤◌, List, length, take, drop, min, refl, ap, ◌∙◌, arith}
use Rattle.std.specs.Int.{Width, w16, w64, byte_len}
use Rattle.std.proofs.lemmas.List.{take-take, take_min, get_or-take}
use Rattle.omi_elf.specs.Header.{field, begins_as_elf, ei_class, ei_data, order_of, e_type, e_phoff, e_phentsize, e_phnum}
use Rattle.omi_elf.specs.Table.{class_row, data_row, type_row, entry_size_row, front_rows, header_rows}
use Rattle.omi_elf.specs.Found.{IsHeaderOf}
use Rattle.omi_elf.specs.declared.header.Header.{Header}
use Rattle.omi_elf.proofs.Within.{bytes_within}

module _ (bytes : List ℕ) where
  abbrev front : List ℕ
  front = take 64 bytes

  field_same : (w : Width) (order at : ℕ) → at + byte_len w ≤ 64 → field w order front at ≡ field w order bytes at
  unfolding field
  field_same w order at le =
      let here : 0 + at ≡ at = omega arith in
      let same : take (byte_len w) (drop at front) ≡ take (byte_len w) (drop at bytes) =
      bytes_within bytes 0 64 at (byte_len w) le ∙ ap (λ (n : ℕ). take (byte_len w) (drop n bytes)) here in
      rw same refl

  begins_same : begins_as_elf front ≡ begins_as_elf bytes
  begins_same = let same = take-take 4 64 bytes (omega arith) in rw same refl

  class_same : ei_class front ≡ ei_class bytes
  class_same = get_or-take 64 bytes 4 0 (omega arith)

  data_same : ei_data front ≡ ei_data bytes
  data_same = get_or-take 64 bytes 5 0 (omega arith)

  order_same : order_of front ≡ order_of bytes
  order_same = rw data_same refl

  type_same : e_type front ≡ e_type bytes
  type_same = rw order_same (field_same w16 (order_of bytes) 16 (omega arith))

  phoff_same : e_phoff front ≡ e_phoff bytes
  phoff_same = rw order_same (field_same w64 (order_of bytes) 32 (omega arith))

  phentsize_same : e_phentsize front ≡ e_phentsize bytes
  phentsize_same = rw order_same (field_same w16 (order_of bytes) 54 (omega arith))

  phnum_same : e_phnum front ≡ e_phnum bytes
  phnum_same = rw order_same (field_same w16 (order_of bytes) 56 (omega arith))

  class_row_same : (len : ℕ) → class_row front len ≡ class_row bytes len
  unfolding class_row
  class_row_same len = rw class_same refl

  data_row_same : (len : ℕ) → data_row front len ≡ data_row bytes len
  unfolding data_row
  data_row_same len = rw data_same refl

  type_row_same : (len : ℕ) → type_row front len ≡ type_row bytes len
  unfolding type_row
  type_row_same len = rw type_same refl

  entry_size_row_same : (len : ℕ) → entry_size_row front len ≡ entry_size_row bytes len
  unfolding entry_size_row
  entry_size_row_same len = rw phentsize_same refl

  rows_same : (most len : ℕ) → header_rows most front len ≡ header_rows most bytes len
  unfolding header_rows front_rows
  rows_same most len =
      let a = class_row_same len in let b = data_row_same len in let c = type_row_same len in let d = entry_size_row_same len in
      rw (begins_same, a, b, c, d) refl

-- the front of a file, as it is read
pub front_of : (n : ℕ) (bytes piece : List ℕ) (count : ℕ) → count ≡ min n (length bytes) → piece ≡ take count (drop 0 bytes) → piece ≡ take n bytes
front_of n bytes piece count counted is = is ∙ ap (λ (k : ℕ). take k bytes) counted ∙ take_min n bytes

-- four bytes of it say that it is an ELF file
pub begins_of_front : (bytes piece : List ℕ) → piece ≡ take 4 bytes → begins_as_elf piece ≡ begins_as_elf bytes
begins_of_front bytes piece is = let same = take-take 4 4 bytes (omega arith) in ap begins_as_elf is ∙ rw same refl

pub rows_of_front : (bytes piece : List ℕ) (most len : ℕ) → len ≡ length bytes → piece ≡ take 64 bytes
    → header_rows most piece len ≡ header_rows most bytes (length bytes)
rows_of_front bytes piece most len is e =
    ap (λ (p : List ℕ). header_rows most p len) e ∙ rows_same bytes most len ∙ ap (header_rows most bytes) is

pub header_of_front : (bytes piece : List ℕ) (header : Header) → piece ≡ take 64 bytes
    → header.order ≡ order_of piece → header.phoff ≡ e_phoff piece → header.phnum ≡ e_phnum piece → IsHeaderOf bytes header
header_of_front bytes piece header e order place count = record {
  order_is = order ∙ ap order_of e ∙ order_same bytes;
  place = place ∙ ap e_phoff e ∙ phoff_same bytes;
  count = count ∙ ap e_phnum e ∙ phnum_same bytes;
}
