-- The ids that a note lists.
use Rattle.std.proofs.Common.{◌≡◌, ℕ, ◌/◌, ◌%◌, ◌≤◌, true, false, List, length, Some, Ok, Err, refl, ap, ◌∙◌, arith}
use Rattle.std.proofs.lemmas.Bool.{eq-eqb, le-leb}
use Rattle.omi_corefile.specs.Limits.{rises_from}
use Rattle.omi_elf.specs.declared.fault.ElfFault.TheVariants.{BadContext}
use Rattle.omi_elf.specs.Header.{numbers_from, order_of}
use Rattle.omi_elf.specs.Notes.{n_descsz, description_place, ids_of}
use Rattle.omi_elf.specs.declared.limits.TheConstants.{MOST_ID_BYTES}
use Rattle.omi_elf.specs.declared.notes.Note.{Note}
use Rattle.omi_elf.specs.Found.{IsDescribed, IsPieceOf}
use Rattle.omi_elf.specs.Table.{judged_note}
use Rattle.omi_elf.proofs.Within.{numbers_within}

-- what was read where the description stands
pub ids_read : (order : ℕ) (bytes piece : List ℕ) (note : Note) (ids : List ℕ) → IsDescribed order bytes note
    → IsPieceOf bytes note.description piece → length piece ≡ note.size
    → ids ≡ numbers_from order piece 0 (length piece / 8) → ids ≡ ids_of order bytes note.at
ids_read order bytes piece note ids d is long e =
    e
    ∙ numbers_within order bytes piece note.description (length piece / 8) is (omega arith)
    ∙ ap (λ (p : ℕ). numbers_from order bytes p (length piece / 8)) d.place
    ∙ ap (λ (n : ℕ). numbers_from order bytes (description_place order bytes note.at) (n / 8)) (long ∙ d.size)

pub ids_row : (order : ℕ) (bytes : List ℕ) (at : ℕ) (ids : List ℕ) → order ≡ order_of bytes
    → n_descsz order bytes at % 8 ≡ 0 → n_descsz order bytes at ≤ MOST_ID_BYTES
    → ids ≡ ids_of order bytes at → rises_from 0 ids ≡ true → judged_note bytes (Some (Some at)) ≡ Ok tt
ids_row order bytes at ids o whole few is rise =
    let a = eq-eqb (n_descsz (order_of bytes) bytes at % 8) 0 (rw o at whole) in
    let b = le-leb (n_descsz (order_of bytes) bytes at) MOST_ID_BYTES (rw o at few) in
    let c = rw is at rise in let d = rw o at c in
    rw (a, b, d) refl

pub fallen_row : (order : ℕ) (bytes : List ℕ) (at place : ℕ) (ids : List ℕ) → order ≡ order_of bytes
    → n_descsz order bytes at % 8 ≡ 0 → n_descsz order bytes at ≤ MOST_ID_BYTES
    → place ≡ description_place order bytes at
    → ids ≡ ids_of order bytes at → rises_from 0 ids ≡ false
    → judged_note bytes (Some (Some at)) ≡ Err (place, BadContext place)
fallen_row order bytes at place ids o whole few there is rise =
    let a = eq-eqb (n_descsz (order_of bytes) bytes at % 8) 0 (rw o at whole) in
    let b = le-leb (n_descsz (order_of bytes) bytes at) MOST_ID_BYTES (rw o at few) in
    let c = rw is at rise in let d = rw o at c in
    rw (there, o, a, b, d) refl
