-- The rows of the segments, one after the other, as the code judges them.
use Rattle.std.proofs.Common.{◌≡◌, ℕ, ◌≤◌, Bool, true, false, cond, List, [], ◌∷◌, length, Option, Some, None, Ok, Err, refl, sym, ap, subst, ◌∙◌, arith}
use Rattle.std.specs.Prelude.{filter, find, not, nat_lt}
use Rattle.std.specs.List.{list_all}
use Rattle.omi_corefile.specs.declared.limits.TheConstants.{MOST_SEGMENTS, MOST_SEGMENT_WORDS}
use Rattle.omi_elf.specs.declared.fault.ElfFault.TheVariants.{Unaligned, TooLarge, Overlap, TooMany}
use Rattle.omi_elf.specs.declared.fault.ElfError.{ElfError}
use Rattle.omi_elf.specs.declared.fault.ElfError.TheVariants.{Fault, OutOfMemory}
use Rattle.omi_elf.specs.declared.fault.ElfReadError.{ElfReadError}
use Rattle.omi_elf.specs.declared.fault.ElfReadError.TheVariants as read
use Rattle.omi_elf.specs.declared.notes.Note.{Note}
use Rattle.omi_elf.specs.Faults.{read_error_of}
use Rattle.omi_elf.specs.declared.program_header.ProgramHeader.{ProgramHeader}
use Rattle.omi_elf.specs.Header.{order_of, program_headers, kept_segments}
use Rattle.omi_elf.specs.Notes.{NotePlace, note_found}
use Rattle.omi_elf.specs.Found.{IsFound, last_in, place_found}
use Rattle.omi_elf.specs.Segments.{by_start, first_overlap, count_apart}
use Rattle.omi_elf.specs.Table.{Judged, ◌>>=◌, fault_if, short_if, fault_of, lies_within, is_unaligned, words_of_all, is_cut}
use Rattle.omi_elf.specs.Table.{judged_note, segments_row, notes_row, unaligned_row, words_row, overlap_row, count_row, contexts_row, segment_rows}
use Rattle.omi_elf.specs.Outcomes.{Fails, ReadFails}

shorter : {X : Type 0} (b : Bool) (x : X) (xs ys : List X) → length ys ≤ length xs → length (cond b (x ∷ ys) ys) ≤ length (x ∷ xs)
shorter true x xs ys le = omega (arith, le)
shorter false x xs ys le = omega (arith, le)

pub filter_shorter : {X : Type 0} (p : X → Bool) (xs : List X) → length (filter p xs) ≤ length xs
filter_shorter p [] = omega arith
filter_shorter p (x ∷ xs) = shorter (p x) x xs (filter p xs) (filter_shorter p xs)

-- ---- each row by what the code judges

pub segments_is : (bytes : List ℕ) (len : ℕ) (ks : List ProgramHeader) → length bytes ≡ len → ks ≡ kept_segments bytes
    → short_if len (not (list_all (lies_within len) ks)) ≡ segments_row bytes
unfolding segments_row
segments_is bytes len ks long e = λ i. let n = sym long i in short_if n (not (list_all (lies_within n) (e i)))

pub unaligned_is : (bytes : List ℕ) (ks : List ProgramHeader) → ks ≡ kept_segments bytes
    → fault_of Unaligned (find is_unaligned ks) ≡ unaligned_row bytes
unfolding unaligned_row
unaligned_is bytes ks e = ap (λ (hs : List ProgramHeader). fault_of Unaligned (find is_unaligned hs)) e

pub words_is : (bytes : List ℕ) (ks : List ProgramHeader) → ks ≡ kept_segments bytes
    → fault_if (nat_lt MOST_SEGMENT_WORDS (words_of_all ks)) 0 (TooLarge (words_of_all ks)) ≡ words_row bytes
unfolding words_row
words_is bytes ks e = ap (λ (hs : List ProgramHeader). fault_if (nat_lt MOST_SEGMENT_WORDS (words_of_all hs)) 0 (TooLarge (words_of_all hs))) e

pub overlap_is : (bytes : List ℕ) (ks : List ProgramHeader) → ks ≡ by_start (kept_segments bytes)
    → fault_of Overlap (first_overlap ks) ≡ overlap_row bytes
unfolding overlap_row
overlap_is bytes ks e = ap (λ (hs : List ProgramHeader). fault_of Overlap (first_overlap hs)) e

pub count_is : (bytes : List ℕ) (ks : List ProgramHeader) → ks ≡ by_start (kept_segments bytes)
    → fault_if (nat_lt MOST_SEGMENTS (count_apart ks)) 0 (TooMany (count_apart ks)) ≡ count_row bytes
unfolding count_row
count_is bytes ks e = ap (λ (hs : List ProgramHeader). fault_if (nat_lt MOST_SEGMENTS (count_apart hs)) 0 (TooMany (count_apart hs))) e

found_is : (bytes : List ℕ) (note : Option Note) (f : Option NotePlace) → IsFound bytes (Ok note) f → f ≡ place_found note
found_is bytes None f h = h
found_is bytes (Some at) f h = h

pub note_is : (bytes : List ℕ) (order : ℕ) (headers : List ProgramHeader) (note : Option Note)
    → order ≡ order_of bytes → headers ≡ program_headers bytes
    → IsFound bytes (Ok note) (last_in order bytes headers) → note_found bytes ≡ place_found note
note_is bytes order headers note o e h =
    sym (ap (λ (k : ℕ). last_in k bytes headers) o ∙ ap (last_in (order_of bytes) bytes) e) ∙ found_is bytes note (last_in order bytes headers) h

not_cut : (note : Option Note) → is_cut (place_found note) ≡ false
not_cut None = refl
not_cut (Some at) = refl

pub notes_passed : (bytes : List ℕ) (note : Option Note) → note_found bytes ≡ place_found note
    → notes_row bytes ≡ Ok tt
unfolding notes_row
notes_passed bytes note e = let f = ap is_cut e ∙ not_cut note in rw f refl

pub notes_failed : (bytes : List ℕ) (order : ℕ) (headers : List ProgramHeader) (e : ElfReadError)
    → order ≡ order_of bytes → headers ≡ program_headers bytes
    → IsFound bytes (Err e) (last_in order bytes headers) → ReadFails e (notes_row bytes)
unfolding notes_row
notes_failed bytes order headers read.OutOfMemory o h found = tt
notes_failed bytes order headers read.Failed o h found = tt
notes_failed bytes order headers (read.Fault at why) o h found =
    let f : note_found bytes ≡ Some None =
    sym (ap (λ (k : ℕ). last_in k bytes headers) o ∙ ap (last_in (order_of bytes) bytes) h) ∙ found.0 in
    rw (f, found.1.place, found.1.fault) refl

pub contexts_is : (bytes : List ℕ) (note : Option Note) → note_found bytes ≡ place_found note
    → judged_note bytes (place_found note) ≡ contexts_row bytes
unfolding contexts_row
contexts_is bytes found e = ap (judged_note bytes) (sym e)

-- ---- one after the other

-- what fails as it is judged fails as it is read
pub read_along : (e : ElfError) (a b : Judged) → a ≡ b → Fails e a → ReadFails (read_error_of e) b
read_along (Fault at why) a b h f = sym h ∙ f
read_along OutOfMemory a b h f = tt

pub fails_along : (e : ElfReadError) (a b : Judged) → a ≡ b → ReadFails e a → ReadFails e b
fails_along e a b h f = subst (ReadFails e) h f

pub first_fails : (e : ElfReadError) (a : Judged) (f : Unit {0} → Judged) → ReadFails e a → ReadFails e (a >>= f)
first_fails read.OutOfMemory a f h = tt
first_fails read.Failed a f h = tt
first_fails (read.Fault at why) a f h = rw h refl

pub next_fails : (e : ElfReadError) (a : Judged) (f : Unit {0} → Judged) → a ≡ Ok tt → ReadFails e (f tt) → ReadFails e (a >>= f)
next_fails e a f h g = rw h g

-- the rows so far
abbrev pub Three : List ℕ → Type 0
Three bytes = (segments_row bytes ≡ Ok tt) × (notes_row bytes ≡ Ok tt) × (unaligned_row bytes ≡ Ok tt)

abbrev pub Six : List ℕ → Type 0
Six bytes = (words_row bytes ≡ Ok tt) × (overlap_row bytes ≡ Ok tt) × (count_row bytes ≡ Ok tt)

pub fails_1 : (e : ElfReadError) (bytes : List ℕ) → ReadFails e (segments_row bytes) → ReadFails e (segment_rows bytes)
unfolding segment_rows
fails_1 e bytes f = first_fails e (segments_row bytes) _ f

pub fails_2 : (e : ElfReadError) (bytes : List ℕ) → segments_row bytes ≡ Ok tt → ReadFails e (notes_row bytes) → ReadFails e (segment_rows bytes)
unfolding segment_rows
fails_2 e bytes a f = next_fails e (segments_row bytes) _ a (first_fails e (notes_row bytes) _ f)

pub fails_3 : (e : ElfReadError) (bytes : List ℕ) → segments_row bytes ≡ Ok tt → notes_row bytes ≡ Ok tt → ReadFails e (unaligned_row bytes) → ReadFails e (segment_rows bytes)
unfolding segment_rows
fails_3 e bytes a b f = next_fails e (segments_row bytes) _ a (next_fails e (notes_row bytes) _ b (first_fails e (unaligned_row bytes) _ f))

pub fails_4 : (e : ElfReadError) (bytes : List ℕ) → Three bytes → ReadFails e (words_row bytes) → ReadFails e (segment_rows bytes)
unfolding segment_rows
fails_4 e bytes t f = next_fails e (segments_row bytes) _ t.0 (next_fails e (notes_row bytes) _ t.1 (next_fails e (unaligned_row bytes) _ t.2 (first_fails e (words_row bytes) _ f)))

pub fails_5 : (e : ElfReadError) (bytes : List ℕ) → Three bytes → words_row bytes ≡ Ok tt → ReadFails e (overlap_row bytes) → ReadFails e (segment_rows bytes)
unfolding segment_rows
fails_5 e bytes t a f = next_fails e (segments_row bytes) _ t.0
    (next_fails e (notes_row bytes) _ t.1 (next_fails e (unaligned_row bytes) _ t.2 (next_fails e (words_row bytes) _ a (first_fails e (overlap_row bytes) _ f))))

pub fails_6 : (e : ElfReadError) (bytes : List ℕ) → Three bytes → words_row bytes ≡ Ok tt → overlap_row bytes ≡ Ok tt → ReadFails e (count_row bytes) → ReadFails e (segment_rows bytes)
unfolding segment_rows
fails_6 e bytes t a b f = next_fails e (segments_row bytes) _ t.0 (next_fails e (notes_row bytes) _ t.1
    (next_fails e (unaligned_row bytes) _ t.2 (next_fails e (words_row bytes) _ a (next_fails e (overlap_row bytes) _ b (first_fails e (count_row bytes) _ f)))))

pub fails_7 : (e : ElfReadError) (bytes : List ℕ) → Three bytes → Six bytes → ReadFails e (contexts_row bytes) → ReadFails e (segment_rows bytes)
unfolding segment_rows
fails_7 e bytes t s f = next_fails e (segments_row bytes) _ t.0 (next_fails e (notes_row bytes) _ t.1
    (next_fails e (unaligned_row bytes) _ t.2 (next_fails e (words_row bytes) _ s.0 (next_fails e (overlap_row bytes) _ s.1 (next_fails e (count_row bytes) _ s.2 f)))))

pub all_pass : (bytes : List ℕ) → Three bytes → Six bytes → contexts_row bytes ≡ Ok tt → segment_rows bytes ≡ Ok tt
unfolding segment_rows
all_pass bytes t s h = rw (t.0, t.1, t.2, s.0, s.1, s.2) h
