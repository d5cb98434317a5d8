-- The note that is written of a core is the one at which the search ends, and its ids are the core's contexts.
use Rattle.std.proofs.Common.{◌≡◌, ℕ, zero, suc, ◌+◌, ◌*◌, ◌/◌, ◌^◌, ◌<◌, ◌≤◌, true, List, [], ◌∷◌, ◌++◌, length, Some, Ok, refl, sym, ap, ◌∙◌, arith, length-append}
use Rattle.std.specs.Int.{w32}
use Rattle.omi_corefile.specs.Limits.{rises_from, are_words}
use Rattle.omi_corefile.specs.Spelling.{words_in}
use Rattle.omi_corefile.specs.declared.limits.TheConstants.{MOST_CONTEXTS}
use Rattle.omi_corefile.proofs.Lengths.{length-words_in}
use Rattle.omi_elf.specs.declared.limits.TheConstants.{NOTE_FRONT_BYTES, NOTE_NAME, NOTE_SEGMENT, NOTE_TYPE}
use Rattle.omi_elf.specs.declared.program_header.ProgramHeader.{ProgramHeader}
use Rattle.omi_elf.specs.Header.{numbers_from, order_of}
use Rattle.omi_elf.specs.Notes.{padded, n_namesz, n_descsz, n_type, to_description, is_ours, ids_of, description_place}
use Rattle.omi_elf.specs.Spelling.{bytes_of, note_bytes, note_size}
use Rattle.omi_elf.specs.Table.{judged_note}
use Rattle.omi_elf.specs.Found.{last_from, last_in}
use Rattle.omi_elf.proofs.Ids.{ids_row}
use Rattle.omi_elf.proofs.NoteSegments.{ends_here}
use Rattle.omi_elf.proofs.NoteSteps.{whole_there, ours_there}
use Rattle.omi_elf.proofs.Placed.{Has, has_first, has_next, has_same, has_room, has_dropped, from_first_6, told32, length-bytes_of, field_read, numbers_read}
use Rattle.omi_elf.proofs.WrittenHeaders.{header_of}

abbrev pub zeros : List ℕ
zeros = 0 ∷ 0 ∷ 0 ∷ []

-- its fields, seen from the first one on
abbrev pub note_fields : ℕ → List ℕ → List ℕ
note_fields order ids =
    bytes_of w32 order (length NOTE_NAME) ++ (bytes_of w32 order (8 * length ids)
    ++ (bytes_of w32 order NOTE_TYPE ++ (NOTE_NAME ++ (zeros ++ words_in order ids))))

note_is : (order : ℕ) (ids : List ℕ) → note_bytes order ids ≡ note_fields order ids
unfolding note_bytes
note_is order ids =
    from_first_6 (bytes_of w32 order (length NOTE_NAME)) (bytes_of w32 order (8 * length ids)) (bytes_of w32 order NOTE_TYPE) NOTE_NAME zeros (words_in order ids)

pub length-note_bytes : (order : ℕ) (ids : List ℕ) → length (note_bytes order ids) ≡ note_size (length ids)
length-note_bytes order ids =
    let four = length-bytes_of w32 (2 ^ 32) told32 order in
    let c = NOTE_NAME ++ (zeros ++ words_in order ids) in
    let b = bytes_of w32 order NOTE_TYPE ++ c in
    let a = bytes_of w32 order (8 * length ids) ++ b in
    ap length (note_is order ids)
    ∙ omega (
      arith,
      four (length NOTE_NAME),
      four (8 * length ids),
      four NOTE_TYPE,
      length-words_in order ids,
      length-append (bytes_of w32 order (length NOTE_NAME)) a,
      length-append (bytes_of w32 order (8 * length ids)) b,
      length-append (bytes_of w32 order NOTE_TYPE) c,
    )

-- what the note at a place says
pub record SaysNote (order : ℕ) (bytes : List ℕ) (place : ℕ) (ids : List ℕ) : Type 0 where
  pub name_size : n_namesz order bytes place ≡ length NOTE_NAME
  pub size : n_descsz order bytes place ≡ 8 * length ids
  pub type_is : n_type order bytes place ≡ NOTE_TYPE
  pub name : Has bytes (place + NOTE_FRONT_BYTES) NOTE_NAME
  pub ids_are : numbers_from order bytes (place + 20) (length ids) ≡ ids
  pub room : place + note_size (length ids) ≤ length bytes

pub note_said : (order : ℕ) (bytes : List ℕ) (place : ℕ) (ids : List ℕ) → length ids ≤ MOST_CONTEXTS → are_words ids ≡ true
    → Has bytes place (note_bytes order ids) → SaysNote order bytes place ids
note_said order bytes place ids few fit written =
    let has = has_same bytes place (note_bytes order ids) (note_fields order ids) (note_is order ids) written in
    let four = length-bytes_of w32 (2 ^ 32) told32 order in
    let d = zeros ++ words_in order ids in
    let c = NOTE_NAME ++ d in
    let b = bytes_of w32 order NOTE_TYPE ++ c in
    let a = bytes_of w32 order (8 * length ids) ++ b in
    let at4 = has_next bytes place (place + 4) (bytes_of w32 order (length NOTE_NAME)) a (omega (arith, four (length NOTE_NAME))) has in
    let at8 = has_next bytes (place + 4) (place + 8) (bytes_of w32 order (8 * length ids)) b (omega (arith, four (8 * length ids))) at4 in
    let at12 = has_next bytes (place + 8) (place + NOTE_FRONT_BYTES) (bytes_of w32 order NOTE_TYPE) c (omega (arith, four NOTE_TYPE)) at8 in
    let at17 = has_next bytes (place + NOTE_FRONT_BYTES) (place + 17) NOTE_NAME d (omega arith) at12 in
    let at20 = has_next bytes (place + 17) (place + 20) zeros (words_in order ids) (omega arith) at17 in
    record {
      name_size = field_read w32 (2 ^ 32) told32 order bytes place (length NOTE_NAME) (omega arith) (has_first bytes place (bytes_of w32 order (length NOTE_NAME)) a has);
      size = field_read w32 (2 ^ 32) told32 order bytes (place + 4) (8 * length ids) (omega (arith, few)) (has_first bytes (place + 4) (bytes_of w32 order (8 * length ids)) b at4);
      type_is = field_read w32 (2 ^ 32) told32 order bytes (place + 8) NOTE_TYPE (omega arith) (has_first bytes (place + 8) (bytes_of w32 order NOTE_TYPE) c at8);
      name = has_first bytes (place + NOTE_FRONT_BYTES) NOTE_NAME d at12;
      ids_are = numbers_read order bytes (place + 20) ids fit at20;
      room = omega (arith, has_room bytes place (note_bytes order ids) written, length-note_bytes order ids);
    }

description_there : (order : ℕ) (bytes : List ℕ) (place : ℕ) (ids : List ℕ) → SaysNote order bytes place ids → to_description order bytes place ≡ 20
description_there order bytes place ids says = ap (λ (n : ℕ). NOTE_FRONT_BYTES + padded n) says.name_size

pub ours : (order : ℕ) (bytes : List ℕ) (place : ℕ) (ids : List ℕ) → SaysNote order bytes place ids → is_ours order bytes place ≡ true
unfolding is_ours
ours order bytes place ids says =
    let a = says.name_size in let b = says.type_is in
    let c = has_dropped bytes (place + NOTE_FRONT_BYTES) NOTE_NAME says.name in
    rw (a, b, c) refl

-- the search ends at it, where its segment is the first
found_within : (order : ℕ) (bytes : List ℕ) (place : ℕ) (ids : List ℕ) (most : ℕ) → SaysNote order bytes place ids → 0 < most
    → last_from order bytes most place (note_size (length ids)) ≡ Some (Some place)
found_within order bytes place ids zero says some = absurd (omega (arith, some))
found_within order bytes place ids (suc most) says some =
    let there = description_there order bytes place ids says in
    ours_there order bytes place (note_size (length ids)) most _
    (whole_there order bytes place (note_size (length ids)) most (omega arith) (omega (arith, says.room)) (omega (arith, there, says.size))
    (omega (arith, there, says.size, says.room)))
    (ours order bytes place ids says)

pub found_first : (order : ℕ) (bytes : List ℕ) (header_place place : ℕ) (ids : List ℕ) (hs : List ProgramHeader) → SaysNote order bytes place ids
    → last_in order bytes (header_of header_place NOTE_SEGMENT place 0 (note_size (length ids)) ∷ hs) ≡ Some (Some place)
found_first order bytes header_place place ids hs says =
    ends_here order bytes (header_of header_place NOTE_SEGMENT place 0 (note_size (length ids))) hs (Some place) refl
    (found_within order bytes place ids (length bytes) says (omega (arith, says.room)))

pub ids_read : (order : ℕ) (bytes : List ℕ) (place : ℕ) (ids : List ℕ) → SaysNote order bytes place ids → ids_of order bytes place ≡ ids
ids_read order bytes place ids says =
    let there : description_place order bytes place ≡ place + 20 = omega (arith, description_there order bytes place ids says) in
    let count : n_descsz order bytes place / 8 ≡ length ids = omega (arith, says.size) in
    ap (λ (p : ℕ). numbers_from order bytes p (n_descsz order bytes place / 8)) there
    ∙ ap (numbers_from order bytes (place + 20)) count ∙ says.ids_are

pub note_passes : (order : ℕ) (bytes : List ℕ) (place : ℕ) (ids : List ℕ) → order_of bytes ≡ order → length ids ≤ MOST_CONTEXTS
    → rises_from 0 ids ≡ true → SaysNote order bytes place ids → judged_note bytes (Some (Some place)) ≡ Ok tt
note_passes order bytes place ids is few rise says =
    ids_row order bytes place ids (sym is) (omega (arith, says.size)) (omega (arith, says.size, few)) (sym (ids_read order bytes place ids says)) rise
