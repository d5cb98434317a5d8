-- What stands first at a note's place says of the note what the file says.
use Rattle.std.proofs.Common.{◌≡◌, ℕ, ◌+◌, ◌-◌, ◌≤◌, List, length, take, drop, min, refl, sym, ap, ◌∙◌, arith}
use Rattle.std.specs.Int.{w32}
use Rattle.std.proofs.lemmas.List.{take_min, length-drop}
use Rattle.omi_elf.specs.declared.limits.TheConstants.{NOTE_FRONT_BYTES}
use Rattle.omi_elf.specs.Header.{field}
use Rattle.omi_elf.specs.Notes.{padded, n_namesz, n_descsz, n_type, to_description, is_ours, is_status}
use Rattle.omi_elf.specs.Found.{IsPieceOf}
use Rattle.omi_elf.proofs.Within.{bytes_within, field_within}

-- the beginning of a note, as far as the file has it
pub record Begins (bytes : List ℕ) (at : ℕ) (piece : List ℕ) : Type 0 where
  pub is : IsPieceOf bytes at piece
  pub counted : length piece ≡ min 17 (length bytes - at)
  pub room : at + NOTE_FRONT_BYTES ≤ length bytes

number_there : (order : ℕ) (bytes piece : List ℕ) (at k p q : ℕ) → Begins bytes at piece → k ≤ 8 → p ≡ k → q ≡ at + k
    → field w32 order piece p ≡ field w32 order bytes q
number_there order bytes piece at k p q b low here there =
    ap (field w32 order piece) here
    ∙ field_within w32 order bytes piece at k b.is (omega (arith, b.counted, b.room, low))
    ∙ ap (field w32 order bytes) (sym there)

pub name_size_is : (order : ℕ) (bytes piece : List ℕ) (at : ℕ) → Begins bytes at piece → n_namesz order piece 0 ≡ n_namesz order bytes at
name_size_is order bytes piece at b = number_there order bytes piece at 0 0 at b (omega arith) refl (omega arith)

pub size_is : (order : ℕ) (bytes piece : List ℕ) (at : ℕ) → Begins bytes at piece → n_descsz order piece 0 ≡ n_descsz order bytes at
size_is order bytes piece at b = number_there order bytes piece at 4 4 (at + 4) b (omega arith) refl refl

type_is : (order : ℕ) (bytes piece : List ℕ) (at : ℕ) → Begins bytes at piece → n_type order piece 0 ≡ n_type order bytes at
type_is order bytes piece at b = number_there order bytes piece at 8 8 (at + 8) b (omega arith) refl refl

pub description_is : (order : ℕ) (bytes piece : List ℕ) (at : ℕ) → Begins bytes at piece
    → to_description order piece 0 ≡ to_description order bytes at
description_is order bytes piece at b = ap (λ (n : ℕ). NOTE_FRONT_BYTES + padded n) (name_size_is order bytes piece at b)

-- the name, or as much of it as the file has
name_is : (bytes piece : List ℕ) (at : ℕ) → Begins bytes at piece → take 5 (drop 12 piece) ≡ take 5 (drop (at + 12) bytes)
name_is bytes piece at b =
    let rest : length (drop at bytes) ≡ length bytes - at = length-drop at bytes in
    let front : piece ≡ take 17 (drop at bytes) =
    b.is ∙ ap (λ (n : ℕ). take n (drop at bytes)) (omega (arith, b.counted, rest)) ∙ take_min 17 (drop at bytes) in
    ap (λ (p : List ℕ). take 5 (drop 12 p)) front ∙ bytes_within bytes at 17 12 5 (omega arith)

pub ours_is : (order : ℕ) (bytes piece : List ℕ) (at : ℕ) → Begins bytes at piece → is_ours order piece 0 ≡ is_ours order bytes at
unfolding is_ours
ours_is order bytes piece at b =
    let a = name_size_is order bytes piece at b in let t = type_is order bytes piece at b in let n = name_is bytes piece at b in
    rw (a, t, n) refl

pub status_is : (order : ℕ) (bytes piece : List ℕ) (at : ℕ) → Begins bytes at piece → is_status order piece 0 ≡ is_status order bytes at
unfolding is_status
status_is order bytes piece at b =
    let a = name_size_is order bytes piece at b in let t = type_is order bytes piece at b in let n = name_is bytes piece at b in
    rw (a, t, n) refl
