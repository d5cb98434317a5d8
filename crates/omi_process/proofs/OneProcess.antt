-- Each file in which no row tells a fault is the core of one process.
use Rattle.std.proofs.Common.{◌≡◌, ℕ, zero, suc, ◌+◌, ◌%◌, ◌≤◌, ◌==◌, ◌&&◌, Bool, true, false, cond, List, [], ◌∷◌, length, Option, Some, None, refl, sym, ap, ◌∙◌, arith, eqb-true, eq-eqb}
use Rattle.std.specs.Prelude.{All, Contains, filter, nat_le}
use Rattle.std.proofs.lemmas.Bool.{and_parts, leb-true, le-leb}
use Rattle.std.proofs.lemmas.List.Elements.{All-head, All-tail, filter_passes}
use Rattle.omi_elf.specs.Header.{order_of, program_headers}
use Rattle.omi_elf.specs.Segments.{word_in_file}
use Rattle.omi_elf.specs.declared.program_header.ProgramHeader.{ProgramHeader}
use Rattle.omi_elf.proofs.Joined.{All-sorted}
use Rattle.omi_process.specs.Ids.{listed}
use Rattle.omi_process.specs.ProcessCore.{EachIsOneProcess, ProcessCore}
use Rattle.omi_process.specs.Table.{Row, first_of, front, headers, ids, many_headers, overlap, overlap_of, rows, whole_notes}
use Rattle.omi_process.specs.Words.{HasWord, first_overlap, holds, is_cut_off, is_looked_at, place_of, segments_of, word_in, words_from, words_of, words_to}
use Rattle.omi_process.proofs.AlongSegments.{looked}
use Rattle.omi_process.proofs.PartWords.{Rise, rises_behind}

-- ---- the segment that has a word

module _ (bytes : List ℕ) (address : ℕ) where
  -- a segment has the eight bytes at the address, and the file has them too
  pub record Holds (h : ProgramHeader) : Type 0 where
    pub aligned : address % 8 ≡ 0
    pub from : h.p_vaddr ≤ address
    pub to : address + 8 ≤ h.p_vaddr + h.p_filesz
    pub there : place_of h address + 8 ≤ length bytes

  is_held : (h : ProgramHeader) → holds bytes address h ≡ true → Holds h
  is_held h e =
      let halves = and_parts (address % 8 == 0 && nat_le h.p_vaddr address)
      (nat_le (address + 8) (h.p_vaddr + h.p_filesz) && nat_le (place_of h address + 8) (length bytes)) e in
      let first = and_parts (address % 8 == 0) (nat_le h.p_vaddr address) halves.0 in
      let second = and_parts (nat_le (address + 8) (h.p_vaddr + h.p_filesz)) (nat_le (place_of h address + 8) (length bytes)) halves.1 in
      record {
        aligned = eqb-true (address % 8) 0 first.0;
        from = leb-true h.p_vaddr address first.1;
        to = leb-true (address + 8) (h.p_vaddr + h.p_filesz) second.0;
        there = leb-true (place_of h address + 8) (length bytes) second.1;
      }

  held_is : (h : ProgramHeader) → Holds h → holds bytes address h ≡ true
  held_is h held = λ i.
      (eq-eqb (address % 8) 0 held.aligned i && le-leb h.p_vaddr address held.from i)
      && (le-leb (address + 8) (h.p_vaddr + h.p_filesz) held.to i && le-leb (place_of h address + 8) (length bytes) held.there i)

  -- what such a word is of
  record IsOf (hs : List ProgramHeader) (word : ℕ) : Type 0 where
    segment : ProgramHeader
    among : Contains hs segment
    held : Holds segment
    word_is : word ≡ word_in_file bytes (place_of segment address)

  of_more : (x : ProgramHeader) (xs : List ProgramHeader) (word : ℕ) → IsOf xs word → IsOf (x ∷ xs) word
  of_more x xs word of = record {
    segment = of.segment;
    among = (suc of.among.0, omega (arith, of.among.1), of.among.2);
    held = of.held;
    word_is = of.word_is;
  }

  of_first : (hs : List ProgramHeader) (word : ℕ) → word_in bytes address hs ≡ Some word → IsOf hs word
  of_first [] word e = absurd cc
  of_first (h ∷ hs) word e = go (holds bytes address h) refl e (of_first hs word)
    where
      go : (b : Bool) → holds bytes address h ≡ b → cond b (Some (word_in_file bytes (place_of h address))) (word_in bytes address hs) ≡ Some word
          → (word_in bytes address hs ≡ Some word → IsOf hs word) → IsOf (h ∷ hs) word
      go true test is behind =
          let same : word_in_file bytes (place_of h address) ≡ word = cc in
          record { segment = h; among = (0, omega arith, refl); held = is_held h test; word_is = sym same }
      go false test is behind = of_more h hs word (behind is)

  -- ---- no other has it

  -- one that has it begins at the bound of those that rise from there, or behind it
  behind_bound : (e : ℕ) (hs : List ProgramHeader) (h : ProgramHeader) → Rise e hs → Contains hs h → e ≤ words_from h
  behind_bound e [] h rise (k, lt, is) = absurd (omega (arith, lt))
  behind_bound e (x ∷ xs) h (from, some, rest) (zero, lt, is) =
      let same : words_from x ≡ words_from h = ap words_from is in omega (arith, from, same)
  behind_bound e (x ∷ xs) h (from, some, rest) (suc k, lt, is) =
      let further = behind_bound (words_to x) xs h rest (k, omega (arith, lt), is) in omega (arith, from, some, further)

  only_of : (e : ℕ) (hs : List ProgramHeader) (h : ProgramHeader) → Rise e hs → Contains hs h → Holds h
      → word_in bytes address hs ≡ Some (word_in_file bytes (place_of h address))
  only_of e [] h rise (k, lt, is) held = absurd (omega (arith, lt))
  only_of e (x ∷ xs) h rise (zero, lt, is) held =
      let test : holds bytes address x ≡ true = ap (holds bytes address) is ∙ held_is h held in
      rw test (ap (λ g. Some (word_in_file bytes (place_of g address))) is)
  only_of e (x ∷ xs) h (from, some, rest) (suc k, lt, is) held =
      go (holds bytes address x) refl (only_of (words_to x) xs h rest (k, omega (arith, lt), is) held)
      (behind_bound (words_to x) xs h rest (k, omega (arith, lt), is))
    where
      go : (b : Bool) → holds bytes address x ≡ b → word_in bytes address xs ≡ Some (word_in_file bytes (place_of h address)) → words_to x ≤ words_from h
          → cond b (Some (word_in_file bytes (place_of x address))) (word_in bytes address xs) ≡ Some (word_in_file bytes (place_of h address))
      go true test behind far = let here = is_held x test in absurd (omega (arith, far, here.to, here.aligned, held.from, held.aligned))
      go false test behind far = behind

-- ---- the rows

-- no row tells a fault, so this one doesn't, and none behind it
next_none : (row : Row) (more : List Row) → first_of (row ∷ more) ≡ None → (row ≡ None) × (first_of more ≡ None)
next_none None more e = (refl, e)
next_none (Some refusal) more e = absurd cc

apart : (bytes : List ℕ) → first_of (rows bytes) ≡ None → first_overlap (segments_of bytes) ≡ None
apart bytes e =
    let a = next_none (front bytes) (many_headers bytes ∷ headers bytes ∷ whole_notes bytes ∷ overlap bytes ∷ ids bytes ∷ []) e in
    let b = next_none (many_headers bytes) (headers bytes ∷ whole_notes bytes ∷ overlap bytes ∷ ids bytes ∷ []) a.1 in
    let c = next_none (headers bytes) (whole_notes bytes ∷ overlap bytes ∷ ids bytes ∷ []) b.1 in
    let d = next_none (whole_notes bytes) (overlap bytes ∷ ids bytes ∷ []) c.1 in
    go (first_overlap (segments_of bytes)) ((next_none (overlap bytes) (ids bytes ∷ []) d.1).0)
  where
    go : (o : Option ProgramHeader) → overlap_of o ≡ None → o ≡ None
    go None is = refl
    go (Some h) is = absurd cc

rise_of : (hs : List ProgramHeader) → All (λ h. is_looked_at h ≡ true) hs → first_overlap hs ≡ None → Rise 0 hs
rise_of [] all e = tt
rise_of (h ∷ hs) all e =
    let l = looked h (All-head (λ x. is_looked_at x ≡ true) h hs all) in
    (omega arith, l.some, rises_behind h hs (All-tail (λ x. is_looked_at x ≡ true) h hs all) e)

-- ---- the law

module _ (bytes : List ℕ) (faultless : first_of (rows bytes) ≡ None) where
  rise : Rise 0 (segments_of bytes)
  rise =
      rise_of (segments_of bytes)
      (All-sorted (λ h. is_looked_at h ≡ true) (filter is_looked_at (program_headers bytes)) (filter_passes is_looked_at (program_headers bytes)))
      (apart bytes faultless)

  has_told : (address word : ℕ) → words_of bytes address ≡ Some word → HasWord bytes address word
  has_told address word e =
      let of = of_first bytes address (segments_of bytes) word e in
      record {
        segment = of.segment;
        among = of.among;
        aligned = of.held.aligned;
        from = of.held.from;
        to = of.held.to;
        there = of.held.there;
        word_is = of.word_is;
      }

  told_has : (address word : ℕ) → HasWord bytes address word → words_of bytes address ≡ Some word
  told_has address word has =
      only_of bytes address 0 (segments_of bytes) has.segment rise has.among
      (record { aligned = has.aligned; from = has.from; to = has.to; there = has.there })
      ∙ ap Some (sym has.word_is)

  core : ProcessCore bytes (order_of bytes) (words_of bytes) (listed bytes) (is_cut_off bytes)
  core = record {
    faultless = faultless;
    order_is = refl;
    words_are = λ address word. (has_told address word, told_has address word);
    ids_are = refl;
    end_is = refl;
  }

-- words that are told by one and not by the other would be no word of the file
same_words : (others own : Option ℕ) → ((word : ℕ) → others ≡ Some word → own ≡ Some word)
    → ((word : ℕ) → own ≡ Some word → others ≡ Some word) → others ≡ own
same_words (Some word) own there back = sym (there word refl)
same_words None (Some word) there back = back word refl
same_words None None there back = refl

pub each_is_one : EachIsOneProcess
each_is_one bytes faultless = record {
  is = core bytes faultless;
  only = λ order others ids cut_off is address.
      same_words (others address) (words_of bytes address)
      (λ word told. told_has bytes faultless address word ((is.words_are address word).0 told))
      (λ word told. (is.words_are address word).1 (has_told bytes faultless address word told));
}
