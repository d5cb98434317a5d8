-- A piece of a file says what the file says there.
use Rattle.std.proofs.Common.{◌≡◌, ℕ, ◌+◌, ◌-◌, ◌*◌, ◌≤◌, zero, suc, List, [], ◌∷◌, ◌++◌, length, take, drop, refl, sym, ap, subst, ◌∙◌, arith, take_all}
use Rattle.std.specs.Int.{Width, w32, w64, byte_len}
use Rattle.std.proofs.lemmas.List.{drop-drop, drop-take, take-take, length-drop, length-take-le}
use Rattle.omi_elf.specs.Header.{field, numbers_from, program_header}
use Rattle.omi_elf.specs.Found.{IsPieceOf}
use Rattle.omi_elf.specs.declared.program_header.ProgramHeader.{ProgramHeader}
use Rattle.omi_elf.proofs.Tables.{numbers_from-none, numbers_from-more}

-- bytes of a piece
pub bytes_within : (bytes : List ℕ) (at n k m : ℕ) → k + m ≤ n
    → take m (drop k (take n (drop at bytes))) ≡ take m (drop (at + k) bytes)
bytes_within bytes at n k m le =
    let room : n ≡ k + (n - k) = omega (arith, le) in
    ap (λ (j : ℕ). take m (drop k (take j (drop at bytes)))) room
    ∙ ap (take m) (drop-take k (n - k) (drop at bytes))
    ∙ take-take m (n - k) (drop k (drop at bytes)) (omega (arith, le))
    ∙ ap (take m) (drop-drop k at bytes)

piece_bytes : (bytes piece : List ℕ) (at k m : ℕ) → IsPieceOf bytes at piece → k + m ≤ length piece
    → take m (drop k piece) ≡ take m (drop (at + k) bytes)
piece_bytes bytes piece at k m is le =
    ap (λ (p : List ℕ). take m (drop k p)) is ∙ bytes_within bytes at (length piece) k m le

-- a number of a piece
pub field_within : (w : Width) (order : ℕ) (bytes piece : List ℕ) (at k : ℕ) → IsPieceOf bytes at piece
    → k + byte_len w ≤ length piece → field w order piece k ≡ field w order bytes (at + k)
unfolding field
field_within w order bytes piece at k is le = let same = piece_bytes bytes piece at k (byte_len w) is le in rw same refl

-- what is left of a piece behind a place
pub piece_behind : (bytes piece : List ℕ) (at k : ℕ) → IsPieceOf bytes at piece → k ≤ length piece
    → IsPieceOf bytes (at + k) (take (length piece - k) (drop k piece))
piece_behind bytes piece at k is le =
    let n : ℕ = length piece in
    let room : n ≡ k + (n - k) = omega (arith, le) in
    let all : take (n - k) (drop k piece) ≡ drop k piece = take_all (n - k) (drop k piece) (omega (arith, length-drop k piece)) in
    let behind : IsPieceOf bytes (at + k) (drop k piece) =
    ap (drop k) (is ∙ ap (λ (j : ℕ). take j (drop at bytes)) room)
    ∙ drop-take k (n - k) (drop at bytes)
    ∙ ap (take (n - k)) (drop-drop k at bytes)
    ∙ ap (λ (j : ℕ). take j (drop (at + k) bytes)) (sym (length-drop k piece)) in
    subst (IsPieceOf bytes (at + k)) (sym all) behind

-- a front of what was read
pub front_piece : (bytes buffer : List ℕ) (at count : ℕ) → count ≤ length buffer → take count buffer ≡ take count (drop at bytes)
    → IsPieceOf bytes at (take count buffer)
front_piece bytes buffer at count le is =
    is ∙ ap (λ (n : ℕ). take n (drop at bytes)) (sym (length-take-le count buffer le))

-- the numbers of a piece
pub numbers_within : (order : ℕ) (bytes piece : List ℕ) (at n : ℕ) → IsPieceOf bytes at piece → 8 * n ≤ length piece
    → numbers_from order piece 0 n ≡ numbers_from order bytes at n
numbers_within order bytes piece at zero is le = numbers_from-none order piece 0 ∙ sym (numbers_from-none order bytes at)
numbers_within order bytes piece at (suc n) is le =
    let one : field w64 order piece (0 + 8 * n) ≡ field w64 order bytes (at + 8 * n) =
    ap (field w64 order piece) (omega arith) ∙ field_within w64 order bytes piece at (8 * n) is (omega (arith, le)) in
    let rest = numbers_within order bytes piece at n is (omega (arith, le)) in
    let next : suc n ≡ n + 1 = omega arith in
    ap (numbers_from order piece 0) next
    ∙ numbers_from-more order piece 0 n
    ∙ (λ i. rest i ++ one i ∷ [])
    ∙ sym (numbers_from-more order bytes at n)
    ∙ ap (numbers_from order bytes at) (sym next)

-- a program header
pub header_within : (order : ℕ) (bytes piece : List ℕ) (at : ℕ) (h : ProgramHeader) → IsPieceOf bytes at piece → 56 ≤ length piece
    → h.start_place ≡ at + 16 → h.p_type ≡ field w32 order piece 0 → h.p_offset ≡ field w64 order piece 8
    → h.p_vaddr ≡ field w64 order piece 16 → h.p_filesz ≡ field w64 order piece 32 → h ≡ program_header order bytes at
unfolding program_header
header_within order bytes piece at h is room place kind offset start size =
    let a : h.p_type ≡ field w32 order bytes at = kind ∙ field_within w32 order bytes piece at 0 is (omega (arith, room)) ∙ ap (field w32 order bytes) (omega arith) in
    let b = offset ∙ field_within w64 order bytes piece at 8 is (omega (arith, room)) in
    let c = start ∙ field_within w64 order bytes piece at 16 is (omega (arith, room)) in
    let d = size ∙ field_within w64 order bytes piece at 32 is (omega (arith, room)) in
    λ i. record { start_place = place i; p_type = a i; p_offset = b i; p_vaddr = c i; p_filesz = d i }
