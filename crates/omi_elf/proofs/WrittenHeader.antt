-- The header that is written of a core, as its fields are read again, passes its rows of the table.
use Rattle.std.proofs.Common.{◌≡◌, ℕ, ◌+◌, ◌*◌, ◌^◌, ◌<◌, ◌≤◌, Bool, true, false, List, ◌++◌, length, Ok, refl, ap, ◌∙◌, inl, inr, arith, length-append}
use Rattle.std.specs.Prelude.{◌&&◌, ◌||◌, ◌==◌, not, nat_lt, slice_index}
use Rattle.std.specs.Int.{w16, w32, w64}
use Rattle.std.proofs.lemmas.Bool.{eq-eqb, le-ltb, cases_eq, or_left, or_right, and_right}
use Rattle.omi_elf.specs.declared.fault.ElfFault.{ElfFault}
use Rattle.omi_elf.specs.declared.fault.ElfFault.TheVariants.{Class, NotCore, HeaderSize, NotElf, TooLarge}
use Rattle.omi_elf.specs.declared.limits.TheConstants.{CORE_TYPE, HEADER_BYTES, MOST_ELF_BYTES, PROGRAM_HEADER_BYTES}
use Rattle.omi_elf.specs.Header.{field, begins_as_elf, ei_class, ei_data, order_of, e_type, e_phoff, e_phentsize, e_phnum}
use Rattle.omi_elf.specs.Spelling.{bytes_of, e_ident, header_front, header_rest, elf_header}
use Rattle.omi_elf.specs.Table.{Judged, ◌>>=◌, fault_if, field_row, length_row, magic_row, class_row, data_row, type_row, entry_size_row, program_headers_row, front_rows, header_rows}
use Rattle.omi_elf.proofs.Placed.{Has, has_first, has_next, has_same, has_room, has_dropped, from_first_6, from_first_8, told16, told32, told64, length-bytes_of, field_read}

-- ---- the fields of its two parts, seen from the first one on

abbrev pub front_fields : ℕ → List ℕ
front_fields order =
    e_ident order ++ (bytes_of w16 order CORE_TYPE ++ (bytes_of w16 order 0 ++ (bytes_of w32 order 1
    ++ (bytes_of w64 order 0 ++ bytes_of w64 order HEADER_BYTES))))

front_is : (order : ℕ) → header_front order ≡ front_fields order
unfolding header_front
front_is order =
    from_first_6 (e_ident order) (bytes_of w16 order CORE_TYPE) (bytes_of w16 order 0) (bytes_of w32 order 1) (bytes_of w64 order 0) (bytes_of w64 order HEADER_BYTES)

abbrev pub rest_fields : ℕ → ℕ → List ℕ
rest_fields order count =
    bytes_of w64 order 0 ++ (bytes_of w32 order 0 ++ (bytes_of w16 order HEADER_BYTES
    ++ (bytes_of w16 order PROGRAM_HEADER_BYTES ++ (bytes_of w16 order count ++ (bytes_of w16 order 0
    ++ (bytes_of w16 order 0 ++ bytes_of w16 order 0))))))

rest_is : (order count : ℕ) → header_rest order count ≡ rest_fields order count
unfolding header_rest
rest_is order count =
    from_first_8 (bytes_of w64 order 0) (bytes_of w32 order 0) (bytes_of w16 order HEADER_BYTES) (bytes_of w16 order PROGRAM_HEADER_BYTES)
    (bytes_of w16 order count) (bytes_of w16 order 0) (bytes_of w16 order 0) (bytes_of w16 order 0)

length_front : (order : ℕ) → length (header_front order) ≡ 40
length_front order =
    let two = length-bytes_of w16 (2 ^ 16) told16 order in
    let four = length-bytes_of w32 (2 ^ 32) told32 order in
    let eight = length-bytes_of w64 (2 ^ 64) told64 order in
    let d = bytes_of w64 order 0 ++ bytes_of w64 order HEADER_BYTES in
    let c = bytes_of w32 order 1 ++ d in
    let b = bytes_of w16 order 0 ++ c in
    let a = bytes_of w16 order CORE_TYPE ++ b in
    ap length (front_is order)
    ∙ omega (
      arith,
      two CORE_TYPE,
      two 0,
      four 1,
      eight 0,
      eight HEADER_BYTES,
      length-append (e_ident order) a,
      length-append (bytes_of w16 order CORE_TYPE) b,
      length-append (bytes_of w16 order 0) c,
      length-append (bytes_of w32 order 1) d,
      length-append (bytes_of w64 order 0) (bytes_of w64 order HEADER_BYTES),
    )

length_rest : (order count : ℕ) → length (header_rest order count) ≡ 24
length_rest order count =
    let two = length-bytes_of w16 (2 ^ 16) told16 order in
    let four = length-bytes_of w32 (2 ^ 32) told32 order in
    let eight = length-bytes_of w64 (2 ^ 64) told64 order in
    let f = bytes_of w16 order 0 ++ bytes_of w16 order 0 in
    let e = bytes_of w16 order 0 ++ f in
    let d = bytes_of w16 order count ++ e in
    let c = bytes_of w16 order PROGRAM_HEADER_BYTES ++ d in
    let b = bytes_of w16 order HEADER_BYTES ++ c in
    let a = bytes_of w32 order 0 ++ b in
    ap length (rest_is order count)
    ∙ omega (
      arith,
      two 0,
      two count,
      two HEADER_BYTES,
      two PROGRAM_HEADER_BYTES,
      four 0,
      eight 0,
      length-append (bytes_of w64 order 0) a,
      length-append (bytes_of w32 order 0) b,
      length-append (bytes_of w16 order HEADER_BYTES) c,
      length-append (bytes_of w16 order PROGRAM_HEADER_BYTES) d,
      length-append (bytes_of w16 order count) e,
      length-append (bytes_of w16 order 0) f,
      length-append (bytes_of w16 order 0) (bytes_of w16 order 0),
    )

pub length-elf_header : (order count : ℕ) → length (elf_header order count) ≡ HEADER_BYTES
length-elf_header order count =
    omega (arith, length_front order, length_rest order count, length-append (header_front order) (header_rest order count))

-- ---- its fields, as they are read

begins_there : (order : ℕ) (rest : List ℕ) → begins_as_elf (header_front order ++ rest) ≡ true
unfolding header_front
begins_there order rest = refl

class_there : (order : ℕ) (rest : List ℕ) → slice_index (header_front order ++ rest) 4 ≡ 2
unfolding header_front
class_there order rest = refl

data_there : (order : ℕ) (rest : List ℕ) → slice_index (header_front order ++ rest) 5 ≡ order + 1
unfolding header_front
data_there order rest = refl

-- what the header of a file with so many program headers says
pub record SaysHeader (order count : ℕ) (bytes : List ℕ) : Type 0 where
  pub begins : begins_as_elf bytes ≡ true
  pub class : ei_class bytes ≡ 2
  pub data_is : ei_data bytes ≡ order + 1
  pub order_is : order_of bytes ≡ order
  pub core : e_type bytes ≡ CORE_TYPE
  pub headers : e_phoff bytes ≡ HEADER_BYTES
  pub size : e_phentsize bytes ≡ PROGRAM_HEADER_BYTES
  pub count_is : e_phnum bytes ≡ count
  pub room : HEADER_BYTES ≤ length bytes

pub header_said : (order count : ℕ) (bytes : List ℕ) → count < 2 ^ 16 → Has bytes 0 (elf_header order count) → SaysHeader order count bytes
header_said order count bytes small has =
    let two = length-bytes_of w16 (2 ^ 16) told16 order in
    let four = length-bytes_of w32 (2 ^ 32) told32 order in
    let eight = length-bytes_of w64 (2 ^ 64) told64 order in
    let head = has_first bytes 0 (header_front order) (header_rest order count) has in
    let tail = has_next bytes 0 40 (header_front order) (header_rest order count) (omega (arith, length_front order)) has in
    let is : bytes ≡ header_front order ++ head.rest = has_dropped bytes 0 (header_front order) head in
    let data_is : ei_data bytes ≡ order + 1 = ap (λ (bs : List ℕ). slice_index bs 5) is ∙ data_there order head.rest in
    let order_is : order_of bytes ≡ order = omega (arith, data_is) in
    let d = bytes_of w64 order 0 ++ bytes_of w64 order HEADER_BYTES in
    let c = bytes_of w32 order 1 ++ d in
    let b = bytes_of w16 order 0 ++ c in
    let a = bytes_of w16 order CORE_TYPE ++ b in
    let fields = has_same bytes 0 (header_front order) (front_fields order) (front_is order) head in
    let at16 = has_next bytes 0 16 (e_ident order) a refl fields in
    let at18 = has_next bytes 16 18 (bytes_of w16 order CORE_TYPE) b (omega (arith, two CORE_TYPE)) at16 in
    let at20 = has_next bytes 18 20 (bytes_of w16 order 0) c (omega (arith, two 0)) at18 in
    let at24 = has_next bytes 20 24 (bytes_of w32 order 1) d (omega (arith, four 1)) at20 in
    let at32 = has_next bytes 24 32 (bytes_of w64 order 0) (bytes_of w64 order HEADER_BYTES) (omega (arith, eight 0)) at24 in
    let k = bytes_of w16 order 0 ++ (bytes_of w16 order 0 ++ bytes_of w16 order 0) in
    let j = bytes_of w16 order count ++ k in
    let i = bytes_of w16 order PROGRAM_HEADER_BYTES ++ j in
    let h = bytes_of w16 order HEADER_BYTES ++ i in
    let g = bytes_of w32 order 0 ++ h in
    let others = has_same bytes 40 (header_rest order count) (rest_fields order count) (rest_is order count) tail in
    let at48 = has_next bytes 40 48 (bytes_of w64 order 0) g (omega (arith, eight 0)) others in
    let at52 = has_next bytes 48 52 (bytes_of w32 order 0) h (omega (arith, four 0)) at48 in
    let at54 = has_next bytes 52 54 (bytes_of w16 order HEADER_BYTES) i (omega (arith, two HEADER_BYTES)) at52 in
    let at56 = has_next bytes 54 56 (bytes_of w16 order PROGRAM_HEADER_BYTES) j (omega (arith, two PROGRAM_HEADER_BYTES)) at54 in
    record {
      begins = ap begins_as_elf is ∙ begins_there order head.rest;
      class = ap (λ (bs : List ℕ). slice_index bs 4) is ∙ class_there order head.rest;
      data_is = data_is;
      order_is = order_is;
      core = ap (λ (o : ℕ). field w16 o bytes 16) order_is
          ∙ field_read w16 (2 ^ 16) told16 order bytes 16 CORE_TYPE (omega arith) (has_first bytes 16 (bytes_of w16 order CORE_TYPE) b at16);
      headers = ap (λ (o : ℕ). field w64 o bytes 32) order_is
          ∙ field_read w64 (2 ^ 64) told64 order bytes 32 HEADER_BYTES (omega arith) at32;
      size = ap (λ (o : ℕ). field w16 o bytes 54) order_is
          ∙ field_read w16 (2 ^ 16) told16 order bytes 54 PROGRAM_HEADER_BYTES (omega arith) (has_first bytes 54 (bytes_of w16 order PROGRAM_HEADER_BYTES) j at54);
      count_is = ap (λ (o : ℕ). field w16 o bytes 56) order_is
          ∙ field_read w16 (2 ^ 16) told16 order bytes 56 count small (has_first bytes 56 (bytes_of w16 order count) k at56);
      room = omega (arith, has_room bytes 0 (elf_header order count) has, length-elf_header order count);
    }

-- ---- its rows

-- a row that tells no fault, and the next
pub passes : (a : Judged) (f : Unit {0} → Judged) → a ≡ Ok tt → f tt ≡ Ok tt → (a >>= f) ≡ Ok tt
passes a f e h = rw e h

-- a fault whose test doesn't hold is not told
pub not_told : (wrong : Bool) (place : ℕ) (why : ElfFault) → wrong ≡ false → fault_if wrong place why ≡ Ok tt
not_told wrong place why e = rw e refl

good_field : (bytes : List ℕ) (end : ℕ) (good : Bool) (place : ℕ) (why : ElfFault) → end ≤ length bytes → good ≡ true
    → field_row (length bytes) end good place why ≡ Ok tt
good_field bytes end good place why le e =
    let there = le-ltb (length bytes) end le in rw (there, e) refl

class_passes : (order count : ℕ) (bytes : List ℕ) → SaysHeader order count bytes → class_row bytes (length bytes) ≡ Ok tt
unfolding class_row
class_passes order count bytes says =
    good_field bytes 5 (ei_class bytes == 2) 4 (Class (ei_class bytes)) (omega (arith, says.room)) (eq-eqb (ei_class bytes) 2 says.class)

data_passes : (order count : ℕ) (bytes : List ℕ) → order ≤ 1 → SaysHeader order count bytes → data_row bytes (length bytes) ≡ Ok tt
unfolding data_row
data_passes order count bytes known says =
    let good : (ei_data bytes == 1 || ei_data bytes == 2) ≡ true =
    elim (cases_eq order 0) [
      | inl zero ↦ or_left (ei_data bytes == 1) (ei_data bytes == 2) (eq-eqb (ei_data bytes) 1 (omega (arith, says.data_is, zero)))
      | inr one ↦ or_right (ei_data bytes == 1) (ei_data bytes == 2) (eq-eqb (ei_data bytes) 2 (omega (arith, says.data_is, one, known)))
    ] in
    good_field bytes 6 (ei_data bytes == 1 || ei_data bytes == 2) 5 (ElfFault.Order (ei_data bytes)) (omega (arith, says.room)) good

type_passes : (order count : ℕ) (bytes : List ℕ) → SaysHeader order count bytes → type_row bytes (length bytes) ≡ Ok tt
unfolding type_row
type_passes order count bytes says =
    good_field bytes 18 (e_type bytes == CORE_TYPE) 16 (NotCore (e_type bytes)) (omega (arith, says.room)) (eq-eqb (e_type bytes) CORE_TYPE says.core)

size_passes : (order count : ℕ) (bytes : List ℕ) → SaysHeader order count bytes → entry_size_row bytes (length bytes) ≡ Ok tt
unfolding entry_size_row
size_passes order count bytes says =
    good_field bytes 56 (e_phentsize bytes == PROGRAM_HEADER_BYTES) 54 (HeaderSize (e_phentsize bytes)) (omega (arith, says.room)) (eq-eqb (e_phentsize bytes) PROGRAM_HEADER_BYTES says.size)

pub header_passes : (order count : ℕ) (bytes : List ℕ) → order ≤ 1 → length bytes ≤ MOST_ELF_BYTES → SaysHeader order count bytes
    → header_rows MOST_ELF_BYTES bytes (length bytes) ≡ Ok tt
unfolding header_rows front_rows
header_passes order count bytes known few says =
    let begins = says.begins in
    passes (length_row MOST_ELF_BYTES bytes (length bytes)) _
    (not_told (begins_as_elf bytes && nat_lt MOST_ELF_BYTES (length bytes)) 0 (TooLarge (length bytes))
    (and_right (begins_as_elf bytes) (nat_lt MOST_ELF_BYTES (length bytes)) (le-ltb MOST_ELF_BYTES (length bytes) few)))
    (passes (magic_row bytes) _ (not_told (not (begins_as_elf bytes)) 0 NotElf (ap not begins))
    (passes (class_row bytes (length bytes)) _ (class_passes order count bytes says)
    (passes (data_row bytes (length bytes)) _ (data_passes order count bytes known says)
    (passes (type_row bytes (length bytes)) _ (type_passes order count bytes says)
    (passes (entry_size_row bytes (length bytes)) _ (size_passes order count bytes says)
    (not_told (nat_lt (length bytes) HEADER_BYTES) (length bytes) (ElfFault.Short (length bytes)) (le-ltb (length bytes) HEADER_BYTES says.room)))))))

pub headers_pass : (order count : ℕ) (bytes : List ℕ) → HEADER_BYTES + PROGRAM_HEADER_BYTES * count ≤ length bytes → SaysHeader order count bytes
    → program_headers_row bytes ≡ Ok tt
unfolding program_headers_row
headers_pass order count bytes room says =
    let there = le-ltb (length bytes) (e_phoff bytes + PROGRAM_HEADER_BYTES * e_phnum bytes) (omega (arith, says.headers, says.count_is, room)) in
    not_told (nat_lt 0 (e_phnum bytes) && nat_lt (length bytes) (e_phoff bytes + PROGRAM_HEADER_BYTES * e_phnum bytes)) (length bytes) (ElfFault.Short (length bytes))
    (and_right (nat_lt 0 (e_phnum bytes)) (nat_lt (length bytes) (e_phoff bytes + PROGRAM_HEADER_BYTES * e_phnum bytes)) there)
