-- The program headers that are written of a core, as they are read again.
use Rattle.std.proofs.Common.{◌≡◌, ℕ, ◌+◌, ◌*◌, ◌%◌, ◌^◌, ◌<◌, ◌≤◌, true, eqb, leb, ltb, List, [], ◌∷◌, ◌++◌, length, map, refl, sym, ap, ◌∙◌, arith, length-append}
use Rattle.std.specs.Prelude.{◌&&◌}
use Rattle.std.specs.List.{range_with_len}
use Rattle.std.specs.Int.{w32, w64}
use Rattle.std.proofs.lemmas.Bool.{and_parts, eqb-true, leb-true, ltb-true}
use Rattle.std.proofs.lemmas.List.Sums.{sum_by-cons}
use Rattle.omi_word.specs.declared.limits.TheConstants.{MEMORY_END}
use Rattle.omi_corefile.specs.declared.segment.Segment.{Segment}
use Rattle.omi_corefile.specs.Limits.{is_start, are_words, rise_apart_from, end_of, total_words}
use Rattle.omi_elf.specs.declared.limits.TheConstants.{LOAD_SEGMENT, PROGRAM_HEADER_BYTES}
use Rattle.omi_elf.specs.declared.program_header.ProgramHeader.{ProgramHeader}
use Rattle.omi_elf.specs.Header.{field, program_header}
use Rattle.omi_elf.specs.Spelling.{bytes_of, header_bytes, segment_headers}
use Rattle.omi_elf.proofs.Placed.{Has, has_first, has_next, has_same, from_first_8, told32, told64, length-bytes_of, field_read}

-- ---- one program header

abbrev pub header_of : ℕ → ℕ → ℕ → ℕ → ℕ → ProgramHeader
header_of place kind offset address size =
    record { start_place = place + 16; p_type = kind; p_offset = offset; p_vaddr = address; p_filesz = size }

-- its fields, seen from the first one on
abbrev pub fields_of : ℕ → ℕ → ℕ → ℕ → ℕ → List ℕ
fields_of order kind offset address size =
    bytes_of w32 order kind ++ (bytes_of w32 order 0 ++ (bytes_of w64 order offset
    ++ (bytes_of w64 order address ++ (bytes_of w64 order 0 ++ (bytes_of w64 order size
    ++ (bytes_of w64 order size ++ bytes_of w64 order 0))))))

fields_are : (order kind offset address size : ℕ) → header_bytes order kind offset address size ≡ fields_of order kind offset address size
unfolding header_bytes
fields_are order kind offset address size =
    from_first_8 (bytes_of w32 order kind) (bytes_of w32 order 0) (bytes_of w64 order offset) (bytes_of w64 order address)
    (bytes_of w64 order 0) (bytes_of w64 order size) (bytes_of w64 order size) (bytes_of w64 order 0)

length_8 : (a b c d e f g h : List ℕ) → length (a ++ (b ++ (c ++ (d ++ (e ++ (f ++ (g ++ h)))))))
    ≡ length a + length b + length c + length d + length e + length f + length g + length h
length_8 a b c d e f g h =
    omega (
      arith,
      length-append a (b ++ (c ++ (d ++ (e ++ (f ++ (g ++ h)))))),
      length-append b (c ++ (d ++ (e ++ (f ++ (g ++ h))))),
      length-append c (d ++ (e ++ (f ++ (g ++ h)))),
      length-append d (e ++ (f ++ (g ++ h))),
      length-append e (f ++ (g ++ h)),
      length-append f (g ++ h),
      length-append g h,
    )

pub length-header_bytes : (order kind offset address size : ℕ) → length (header_bytes order kind offset address size) ≡ PROGRAM_HEADER_BYTES
length-header_bytes order kind offset address size =
    let four = length-bytes_of w32 (2 ^ 32) told32 order in
    let eight = length-bytes_of w64 (2 ^ 64) told64 order in
    let all = length_8 (bytes_of w32 order kind) (bytes_of w32 order 0) (bytes_of w64 order offset) (bytes_of w64 order address)
    (bytes_of w64 order 0) (bytes_of w64 order size) (bytes_of w64 order size) (bytes_of w64 order 0) in
    ap length (fields_are order kind offset address size)
    ∙ omega (arith, all, four kind, four 0, eight offset, eight address, eight 0, eight size)

same_header : (place k l o p a b s t : ℕ) → k ≡ l → o ≡ p → a ≡ b → s ≡ t → header_of place k o a s ≡ header_of place l p b t
same_header place k l o p a b s t e f g h =
    ap (λ (x : ℕ). header_of place x o a s) e ∙ ap (λ (x : ℕ). header_of place l x a s) f
    ∙ ap (λ (x : ℕ). header_of place l p x s) g ∙ ap (λ (x : ℕ). header_of place l p b x) h

pub header_read : (order : ℕ) (bytes : List ℕ) (place kind offset address size : ℕ) → kind < 2 ^ 32 → offset < 2 ^ 64
    → address < 2 ^ 64 → size < 2 ^ 64 → Has bytes place (header_bytes order kind offset address size)
    → program_header order bytes place ≡ header_of place kind offset address size
unfolding program_header
header_read order bytes place kind offset address size k o a s written =
    let has = has_same bytes place (header_bytes order kind offset address size) (fields_of order kind offset address size) (fields_are order kind offset address size) written in
    let four = length-bytes_of w32 (2 ^ 32) told32 order in
    let eight = length-bytes_of w64 (2 ^ 64) told64 order in
    let h = bytes_of w64 order size ++ bytes_of w64 order 0 in
    let f = bytes_of w64 order size ++ h in
    let e = bytes_of w64 order 0 ++ f in
    let d = bytes_of w64 order address ++ e in
    let c = bytes_of w64 order offset ++ d in
    let b = bytes_of w32 order 0 ++ c in
    let at4 = has_next bytes place (place + 4) (bytes_of w32 order kind) b (omega (arith, four kind)) has in
    let at8 = has_next bytes (place + 4) (place + 8) (bytes_of w32 order 0) c (omega (arith, four 0)) at4 in
    let at16 = has_next bytes (place + 8) (place + 16) (bytes_of w64 order offset) d (omega (arith, eight offset)) at8 in
    let at24 = has_next bytes (place + 16) (place + 24) (bytes_of w64 order address) e (omega (arith, eight address)) at16 in
    let at32 = has_next bytes (place + 24) (place + 32) (bytes_of w64 order 0) f (omega (arith, eight 0)) at24 in
    same_header place (field w32 order bytes place) kind (field w64 order bytes (place + 8)) offset (field w64 order bytes (place + 16)) address (field w64 order bytes (place + 32)) size
    (field_read w32 (2 ^ 32) told32 order bytes place kind k (has_first bytes place (bytes_of w32 order kind) b has))
    (field_read w64 (2 ^ 64) told64 order bytes (place + 8) offset o (has_first bytes (place + 8) (bytes_of w64 order offset) d at8))
    (field_read w64 (2 ^ 64) told64 order bytes (place + 16) address a (has_first bytes (place + 16) (bytes_of w64 order address) e at16))
    (field_read w64 (2 ^ 64) told64 order bytes (place + 32) size s (has_first bytes (place + 32) (bytes_of w64 order size) h at32))

-- ---- those of the segments

-- what a core says of a segment that starts at `least` or above
pub record FitsFrom (least : ℕ) (s : Segment) : Type 0 where
  pub aligned : s.start % 8 ≡ 0
  pub high : least ≤ s.start
  pub low : s.start < MEMORY_END
  pub some : 0 < length s.words
  pub words : are_words s.words ≡ true

pub first_fits : (least : ℕ) (s : Segment) (ss : List Segment) → rise_apart_from least (s ∷ ss) ≡ true
    → FitsFrom least s × (rise_apart_from (end_of s.start (length s.words) + 1) ss ≡ true)
first_fits least s ss e =
    let a = and_parts (is_start least s.start && ltb 0 (length s.words) && are_words s.words) (rise_apart_from (end_of s.start (length s.words) + 1) ss) e in
    let b = and_parts (is_start least s.start && ltb 0 (length s.words)) (are_words s.words) a.0 in
    let c = and_parts (is_start least s.start) (ltb 0 (length s.words)) b.0 in
    let d = and_parts (eqb (s.start % 8) 0 && leb least s.start) (ltb s.start MEMORY_END) c.0 in
    let f = and_parts (eqb (s.start % 8) 0) (leb least s.start) d.0 in (
      record {
        aligned = eqb-true (s.start % 8) 0 f.0;
        high = leb-true least s.start f.1;
        low = ltb-true s.start MEMORY_END d.1;
        some = ltb-true 0 (length s.words) c.1;
        words = b.1;
      },
      a.1,
    )

abbrev pub load_header : ℕ → ℕ → Segment → ProgramHeader
load_header place offset s = header_of place LOAD_SEGMENT offset s.start (8 * length s.words)

-- the program headers of segments, from a place of the file on, whose words stand one behind the other from an offset on
abbrev pub load_headers : ℕ → ℕ → List Segment → List ProgramHeader
load_headers place offset [] = []
load_headers place offset (s ∷ ss) =
    load_header place offset s ∷ load_headers (place + PROGRAM_HEADER_BYTES) (offset + 8 * length s.words) ss

pub length-segment_headers : (order offset : ℕ) (ss : List Segment) → length (segment_headers order offset ss) ≡ PROGRAM_HEADER_BYTES * length ss
length-segment_headers order offset [] = refl
length-segment_headers order offset (s ∷ ss) =
    omega (
      arith,
      length-header_bytes order LOAD_SEGMENT offset s.start (8 * length s.words),
      length-segment_headers order (offset + 8 * length s.words) ss,
      length-append (header_bytes order LOAD_SEGMENT offset s.start (8 * length s.words)) (segment_headers order (offset + 8 * length s.words) ss),
    )

pub headers_read : (order : ℕ) (bytes : List ℕ) (base k : ℕ) (ss : List Segment) (least place offset : ℕ)
    → place ≡ base + PROGRAM_HEADER_BYTES * k → rise_apart_from least ss ≡ true → offset + 8 * total_words ss < 2 ^ 64
    → Has bytes place (segment_headers order offset ss)
    → map (λ (i : ℕ). program_header order bytes (base + PROGRAM_HEADER_BYTES * i)) (range_with_len k (length ss)) ≡ load_headers place offset ss
headers_read order bytes base k [] least place offset e rise small has = refl
headers_read order bytes base k (s ∷ ss) least place offset e rise small has =
    let fits = first_fits least s ss rise in
    let sum = sum_by-cons (λ (t : Segment). length t.words) s ss in
    let one = header_bytes order LOAD_SEGMENT offset s.start (8 * length s.words) in
    let others = segment_headers order (offset + 8 * length s.words) ss in
    let f = λ (i : ℕ). program_header order bytes (base + PROGRAM_HEADER_BYTES * i) in
    let first : f k ≡ load_header place offset s =
    ap (program_header order bytes) (sym e)
    ∙ header_read order bytes place LOAD_SEGMENT offset s.start (8 * length s.words) (omega arith) (omega (arith, small)) (omega (arith, fits.0.low)) (omega (arith, small, sum))
    (has_first bytes place one others has) in
    let rest = headers_read order bytes base (k + 1) ss (end_of s.start (length s.words) + 1) (place + PROGRAM_HEADER_BYTES) (offset + 8 * length s.words)
    (omega (arith, e)) fits.1 (omega (arith, small, sum))
    (has_next bytes place (place + PROGRAM_HEADER_BYTES) one others (omega (arith, length-header_bytes order LOAD_SEGMENT offset s.start (8 * length s.words))) has) in
    ap (λ (h : ProgramHeader). h ∷ map f (range_with_len (k + 1) (length ss))) first
    ∙ ap (λ (hs : List ProgramHeader). load_header place offset s ∷ hs) rest
