-- Segments that are looked at, one behind another.
use Rattle.std.proofs.Common.{◌≡◌, ℕ, ◌+◌, ◌<◌, Bool, true, false, List, [], ◌∷◌, ◌++◌, length, drop, get_or, Some, None, refl, ap, sym, ◌∙◌}
use Rattle.std.specs.Prelude.{All, ◌&&◌, ◌==◌, nat_le, nat_lt}
use Rattle.std.specs.List.{list_any}
use Rattle.std.proofs.lemmas.Bool.{and_parts, ltb-true}
use Rattle.std.proofs.lemmas.List.{drop_more, append_assoc}
use Rattle.std.proofs.lemmas.List.Elements.{All-get_or}
use Rattle.omi_word.specs.declared.limits.TheConstants.{FIRST_ADDRESS, MEMORY_END}
use Rattle.omi_elf.specs.declared.limits.TheConstants.{LOAD_SEGMENT}
use Rattle.omi_elf.specs.declared.program_header.ProgramHeader.{ProgramHeader}
use Rattle.omi_elf.proofs.NoteSegments.{no_header}
use Rattle.omi_process.specs.Words.{words_from, words_to, is_looked_at, place_of, overlap_behind}
use Rattle.omi_process.specs.Reading.{part_in, parts_in}

-- a segment that is looked at, fact by fact
pub record Looked (h : ProgramHeader) : Type 0 where
  pub low : h.p_vaddr < MEMORY_END
  pub some : words_from h < words_to h

pub looked : (h : ProgramHeader) → is_looked_at h ≡ true → Looked h
looked h e =
    let a = and_parts (h.p_type == LOAD_SEGMENT && nat_le FIRST_ADDRESS h.p_vaddr && nat_lt h.p_vaddr MEMORY_END) (nat_lt (words_from h) (words_to h)) e in
    let b = and_parts (h.p_type == LOAD_SEGMENT && nat_le FIRST_ADDRESS h.p_vaddr) (nat_lt h.p_vaddr MEMORY_END) a.0 in
    record {
      low = ltb-true h.p_vaddr MEMORY_END b.1;
      some = ltb-true (words_from h) (words_to h) a.1;
    }

-- the one at a place of a list
pub looked_there : (hs : List ProgramHeader) (i : ℕ) → i < length hs → All (λ h. is_looked_at h ≡ true) hs → Looked (get_or hs i no_header)
looked_there hs i lt all = looked (get_or hs i no_header) (All-get_or (λ h. is_looked_at h ≡ true) hs i no_header lt all)

-- ---- one step along a list

-- this one has no word of the one before
pub no_overlap : (before : ProgramHeader) (hs : List ProgramHeader) (i : ℕ) → i < length hs
    → nat_lt (words_from (get_or hs i no_header)) (words_to before) ≡ false
    → overlap_behind (get_or hs i no_header) (drop (i + 1) hs) ≡ overlap_behind before (drop i hs)
no_overlap before hs i lt e = sym (ap (overlap_behind before) (drop_more hs i no_header lt) ∙ rw e refl)

-- or it has one
pub overlaps : (before : ProgramHeader) (hs : List ProgramHeader) (i : ℕ) → i < length hs
    → nat_lt (words_from (get_or hs i no_header)) (words_to before) ≡ true
    → overlap_behind before (drop i hs) ≡ Some (get_or hs i no_header)
overlaps before hs i lt e = ap (overlap_behind before) (drop_more hs i no_header lt) ∙ rw e refl

-- the file of so many bytes has all words of this one, or it lacks some
module _ (len : ℕ) (hs : List ProgramHeader) (i : ℕ) (lt : i < length hs) where
  abbrev lacks : ProgramHeader → Bool
  lacks h = nat_lt len (place_of h (words_to h))

  pub has_all : lacks (get_or hs i no_header) ≡ false → list_any lacks (drop (i + 1) hs) ≡ list_any lacks (drop i hs)
  has_all e = sym (ap (list_any lacks) (drop_more hs i no_header lt) ∙ rw e refl)

  pub has_not : lacks (get_or hs i no_header) ≡ true → list_any lacks (drop i hs) ≡ true
  has_not e = ap (list_any lacks) (drop_more hs i no_header lt) ∙ rw e refl

  -- the part of this one is another part, or it has none
  pub no_part : part_in len (get_or hs i no_header) ≡ None → parts_in len (drop (i + 1) hs) ≡ parts_in len (drop i hs)
  no_part e = sym (ap (parts_in len) (drop_more hs i no_header lt) ∙ rw e refl)

  pub one_part : (part : ProgramHeader) → part_in len (get_or hs i no_header) ≡ Some part
      → part ∷ parts_in len (drop (i + 1) hs) ≡ parts_in len (drop i hs)
  one_part part e = sym (ap (parts_in len) (drop_more hs i no_header lt) ∙ rw e refl)

-- a part that is added to those so far
pub part_added : (so_far : List ProgramHeader) (part : ProgramHeader) (rest next all : List ProgramHeader) → part ∷ rest ≡ next → so_far ++ next ≡ all
    → (so_far ++ part ∷ []) ++ rest ≡ all
part_added so_far part rest next all is whole = append_assoc so_far (part ∷ []) rest ∙ ap (λ xs. so_far ++ xs) is ∙ whole
