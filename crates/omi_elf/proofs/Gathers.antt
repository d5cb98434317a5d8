-- One more segment, as the words of segments in order of start are gathered.
use Rattle.std.proofs.Common.{◌≡◌, ℕ, ◌+◌, ◌*◌, ◌<◌, ◌^◌, List, [], ◌∷◌, ◌++◌, length, drop, get_or, refl, ap, sym, ◌∙◌, append_assoc, arith}
use Rattle.std.proofs.lemmas.Bool.{eq-eqb, ne_eqb}
use Rattle.std.proofs.lemmas.List.{drop_more, length-append}
use Rattle.omi_corefile.specs.declared.segment.Segment.{Segment}
use Rattle.omi_elf.specs.declared.program_header.ProgramHeader.{ProgramHeader}
use Rattle.omi_elf.specs.Header.{word_count}
use Rattle.omi_elf.specs.Gathered.{words_of, segment_of, longer, gathered_behind}
use Rattle.omi_elf.specs.Found.{IsBounded}
use Rattle.omi_elf.proofs.NoteSegments.{no_header}
use Rattle.omi_elf.proofs.Tables.{length-numbers_from}

pub gathers_touching : (order : ℕ) (bytes : List ℕ) (s : Segment) (hs : List ProgramHeader) (i : ℕ) (front : List Segment) (all : List Segment)
    → i < length hs → s.start + 8 * length s.words ≡ (get_or hs i no_header).p_vaddr
    → front ++ gathered_behind order bytes s (drop i hs) ≡ all
    → front ++ gathered_behind order bytes (longer s (words_of order bytes (get_or hs i no_header))) (drop (i + 1) hs) ≡ all
gathers_touching order bytes s hs i front all lt touch h =
    let e = eq-eqb (s.start + 8 * length s.words) (get_or hs i no_header).p_vaddr touch in
    let step : gathered_behind order bytes s (drop i hs) ≡ gathered_behind order bytes (longer s (words_of order bytes (get_or hs i no_header))) (drop (i + 1) hs) =
    ap (gathered_behind order bytes s) (drop_more hs i no_header lt) ∙ rw e refl in
    ap (λ (ss : List Segment). front ++ ss) (sym step) ∙ h

pub gathers_apart : (order : ℕ) (bytes : List ℕ) (s : Segment) (hs : List ProgramHeader) (i : ℕ) (front : List Segment) (all : List Segment)
    → i < length hs → (s.start + 8 * length s.words ≡ (get_or hs i no_header).p_vaddr → ⊥)
    → front ++ gathered_behind order bytes s (drop i hs) ≡ all
    → (front ++ s ∷ []) ++ gathered_behind order bytes (segment_of order bytes (get_or hs i no_header)) (drop (i + 1) hs) ≡ all
gathers_apart order bytes s hs i front all lt ne h =
    let e = ne_eqb (s.start + 8 * length s.words) (get_or hs i no_header).p_vaddr ne in
    let step : gathered_behind order bytes s (drop i hs) ≡ s ∷ gathered_behind order bytes (segment_of order bytes (get_or hs i no_header)) (drop (i + 1) hs) =
    ap (gathered_behind order bytes s) (drop_more hs i no_header lt) ∙ rw e refl in
    append_assoc front (s ∷ []) (gathered_behind order bytes (segment_of order bytes (get_or hs i no_header)) (drop (i + 1) hs))
    ∙ ap (λ (ss : List Segment). front ++ ss) (sym step) ∙ h

pub length-words_of : (order : ℕ) (bytes : List ℕ) (h : ProgramHeader) → length (words_of order bytes h) ≡ word_count h
length-words_of order bytes h = length-numbers_from order bytes h.p_offset (word_count h)

pub end_of_segment : (order : ℕ) (bytes : List ℕ) (h : ProgramHeader) → IsBounded h
    → (segment_of order bytes h).start + 8 * length (segment_of order bytes h).words < 2 ^ 60
end_of_segment order bytes h b = omega (arith, length-words_of order bytes h, b.few, b.low)

pub end_of_longer : (order : ℕ) (bytes : List ℕ) (s : Segment) (h : ProgramHeader) → IsBounded h
    → s.start + 8 * length s.words ≡ h.p_vaddr
    → (longer s (words_of order bytes h)).start + 8 * length (longer s (words_of order bytes h)).words < 2 ^ 60
end_of_longer order bytes s h b touch =
    omega (arith, length-words_of order bytes h, length-append s.words (words_of order bytes h), b.few, b.low, touch)
