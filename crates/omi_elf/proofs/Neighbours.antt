-- Segments in order of start, one behind another.
use Rattle.std.proofs.Common.{◌≡◌, ℕ, ◌+◌, ◌<◌, ◌≤◌, List, length, drop, get_or, refl, ap, sym, ◌∙◌, arith}
use Rattle.std.proofs.lemmas.Bool.{eq-eqb, ne_eqb, le-ltb}
use Rattle.std.proofs.lemmas.List.{drop_more}
use Rattle.omi_elf.specs.declared.program_header.ProgramHeader.{ProgramHeader}
use Rattle.omi_elf.specs.Header.{segment_end}
use Rattle.omi_elf.specs.Segments.{count_behind, overlap_behind}
use Rattle.omi_elf.proofs.NoteSegments.{no_header}

pub counts_apart : (count : ℕ) (before : ProgramHeader) (hs : List ProgramHeader) (i total : ℕ)
    → i < length hs → (segment_end before ≡ (get_or hs i no_header).p_vaddr → ⊥)
    → count + count_behind before (drop i hs) ≡ total
    → (count + 1) + count_behind (get_or hs i no_header) (drop (i + 1) hs) ≡ total
counts_apart count before hs i total lt ne h =
    let e = ne_eqb (segment_end before) (get_or hs i no_header).p_vaddr ne in
    let step : count_behind before (drop i hs) ≡ 1 + count_behind (get_or hs i no_header) (drop (i + 1) hs) =
    ap (count_behind before) (drop_more hs i no_header lt) ∙ rw e refl in
    omega (arith, h, step)

pub counts_touching : (count : ℕ) (before : ProgramHeader) (hs : List ProgramHeader) (i total : ℕ)
    → i < length hs → segment_end before ≡ (get_or hs i no_header).p_vaddr
    → count + count_behind before (drop i hs) ≡ total
    → count + count_behind (get_or hs i no_header) (drop (i + 1) hs) ≡ total
counts_touching count before hs i total lt eq h =
    let e = eq-eqb (segment_end before) (get_or hs i no_header).p_vaddr eq in
    let step : count_behind before (drop i hs) ≡ 0 + count_behind (get_or hs i no_header) (drop (i + 1) hs) =
    ap (count_behind before) (drop_more hs i no_header lt) ∙ rw e refl in
    omega (arith, h, step)

pub no_overlap : (before : ProgramHeader) (hs : List ProgramHeader) (i : ℕ) → i < length hs
    → segment_end before ≤ (get_or hs i no_header).p_vaddr
    → overlap_behind (get_or hs i no_header) (drop (i + 1) hs) ≡ overlap_behind before (drop i hs)
no_overlap before hs i lt le =
    let e = le-ltb (get_or hs i no_header).p_vaddr (segment_end before) le in
    sym (ap (overlap_behind before) (drop_more hs i no_header lt) ∙ rw e refl)
