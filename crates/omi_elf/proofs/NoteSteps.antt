-- What stands at one place of a segment of notes, and how the search for our note goes on from there.
use Rattle.std.proofs.Common.{◌≡◌, ℕ, suc, ◌+◌, ◌-◌, ◌<◌, ◌≤◌, true, false, List, [], ◌∷◌, length, Some, None, refl, ap, ◌∙◌}
use Rattle.std.specs.Prelude.{find}
use Rattle.std.proofs.lemmas.Bool.{lt-ltb, le-ltb}
use Rattle.omi_elf.specs.declared.limits.TheConstants.{NOTE_FRONT_BYTES}
use Rattle.omi_elf.specs.Notes.{NotePlace, notes_from, is_last_read, to_end, to_next, is_ours}
use Rattle.omi_elf.specs.Found.{last_from}

-- the segment has no room for the front of a note
pub no_front : (order : ℕ) (bytes : List ℕ) (at left most : ℕ) → left < NOTE_FRONT_BYTES
    → notes_from order bytes (suc most) at left ≡ []
no_front order bytes at left most h = let e = lt-ltb left NOTE_FRONT_BYTES h in rw e refl

-- the file ends inside the front of a note
pub cut_front : (order : ℕ) (bytes : List ℕ) (at left most : ℕ) → NOTE_FRONT_BYTES ≤ left
    → length bytes < at + NOTE_FRONT_BYTES → notes_from order bytes (suc most) at left ≡ None ∷ []
cut_front order bytes at left most h k =
    let e = le-ltb left NOTE_FRONT_BYTES h in let f = lt-ltb (length bytes) (at + NOTE_FRONT_BYTES) k in
    rw (e, f) refl

-- the segment has no room for the rest of a note
pub no_rest : (order : ℕ) (bytes : List ℕ) (at left most : ℕ) → NOTE_FRONT_BYTES ≤ left
    → at + NOTE_FRONT_BYTES ≤ length bytes → left < to_end order bytes at
    → notes_from order bytes (suc most) at left ≡ []
no_rest order bytes at left most h k m =
    let e = le-ltb left NOTE_FRONT_BYTES h in let f = le-ltb (length bytes) (at + NOTE_FRONT_BYTES) k in
    let g = lt-ltb left (to_end order bytes at) m in
    rw (e, f, g) refl

-- the file ends inside the rest of a note
pub cut_rest : (order : ℕ) (bytes : List ℕ) (at left most : ℕ) → NOTE_FRONT_BYTES ≤ left
    → at + NOTE_FRONT_BYTES ≤ length bytes → to_end order bytes at ≤ left
    → length bytes < at + to_end order bytes at → notes_from order bytes (suc most) at left ≡ None ∷ []
cut_rest order bytes at left most h k m n =
    let e = le-ltb left NOTE_FRONT_BYTES h in let f = le-ltb (length bytes) (at + NOTE_FRONT_BYTES) k in
    let g = le-ltb left (to_end order bytes at) m in
    let i = lt-ltb (length bytes) (at + to_end order bytes at) n in
    rw (e, f, g, i) refl

-- a whole note
pub whole_there : (order : ℕ) (bytes : List ℕ) (at left most : ℕ) → NOTE_FRONT_BYTES ≤ left
    → at + NOTE_FRONT_BYTES ≤ length bytes → to_end order bytes at ≤ left
    → at + to_end order bytes at ≤ length bytes
    → notes_from order bytes (suc most) at left
    ≡ Some at ∷ notes_from order bytes most (at + to_next order bytes at) (left - to_next order bytes at)
whole_there order bytes at left most h k m n =
    let e = le-ltb left NOTE_FRONT_BYTES h in let f = le-ltb (length bytes) (at + NOTE_FRONT_BYTES) k in
    let g = le-ltb left (to_end order bytes at) m in
    let i = le-ltb (length bytes) (at + to_end order bytes at) n in
    rw (e, f, g, i) refl

-- ---- the search

module _ (order : ℕ) (bytes : List ℕ) (at left most : ℕ) where
  -- it ends where no note stands, and where the file ends inside one
  pub none_there : notes_from order bytes (suc most) at left ≡ [] → last_from order bytes (suc most) at left ≡ None
  none_there is = ap (find (is_last_read order bytes)) is

  pub cut_there : notes_from order bytes (suc most) at left ≡ None ∷ [] → last_from order bytes (suc most) at left ≡ Some None
  cut_there is = ap (find (is_last_read order bytes)) is

  -- it ends at a note of ours
  pub ours_there : (rest : List NotePlace) → notes_from order bytes (suc most) at left ≡ Some at ∷ rest
      → is_ours order bytes at ≡ true → last_from order bytes (suc most) at left ≡ Some (Some at)
  ours_there rest is ours = ap (find (is_last_read order bytes)) is ∙ rw ours refl

  -- it goes on behind another one
  pub other_there : (step : ℕ)
      → notes_from order bytes (suc most) at left ≡ Some at ∷ notes_from order bytes most (at + step) (left - step)
      → is_ours order bytes at ≡ false
      → last_from order bytes (suc most) at left ≡ last_from order bytes most (at + step) (left - step)
  other_there step is ours = ap (find (is_last_read order bytes)) is ∙ rw ours refl
