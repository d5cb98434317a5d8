-- One more entry of what stands one behind another in the file.
use Rattle.std.proofs.Common.{◌≡◌, ℕ, ◌+◌, ◌*◌, List, [], ◌∷◌, ◌++◌, length, refl, arith}
use Rattle.std.specs.Int.{w64}
use Rattle.std.proofs.lemmas.List.FromFn.{map-range_with_len_more, length-map-range_with_len}
use Rattle.omi_elf.specs.declared.limits.TheConstants.{PROGRAM_HEADER_BYTES}
use Rattle.omi_elf.specs.Header.{field, numbers_from, program_header, headers_from}

pub headers_from-none : (order : ℕ) (bytes : List ℕ) (at : ℕ) → headers_from order bytes at 0 ≡ []
unfolding headers_from
headers_from-none order bytes at = refl

pub headers_from-more : (order : ℕ) (bytes : List ℕ) (at i : ℕ)
    → headers_from order bytes at (i + 1)
    ≡ headers_from order bytes at i ++ program_header order bytes (at + PROGRAM_HEADER_BYTES * i) ∷ []
unfolding headers_from
headers_from-more order bytes at i =
    map-range_with_len_more (λ (k : ℕ). program_header order bytes (at + PROGRAM_HEADER_BYTES * k)) 0 i i (omega arith)

pub numbers_from-none : (order : ℕ) (bytes : List ℕ) (at : ℕ) → numbers_from order bytes at 0 ≡ []
unfolding numbers_from
numbers_from-none order bytes at = refl

pub numbers_from-more : (order : ℕ) (bytes : List ℕ) (at i : ℕ)
    → numbers_from order bytes at (i + 1) ≡ numbers_from order bytes at i ++ field w64 order bytes (at + 8 * i) ∷ []
unfolding numbers_from
numbers_from-more order bytes at i =
    map-range_with_len_more (λ (k : ℕ). field w64 order bytes (at + 8 * k)) 0 i i (omega arith)

pub length-numbers_from : (order : ℕ) (bytes : List ℕ) (at n : ℕ) → length (numbers_from order bytes at n) ≡ n
unfolding numbers_from
length-numbers_from order bytes at n = length-map-range_with_len (λ (k : ℕ). field w64 order bytes (at + 8 * k)) 0 n
