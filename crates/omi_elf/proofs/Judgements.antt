-- The rows of the header, of the program headers and of what these say, one after the other, as a file is read.
use Rattle.std.proofs.Common.{◌≡◌, ℕ, ◌+◌, ◌*◌, ◌<◌, ◌≤◌, Bool, true, false, List, length, Ok, Err, refl, ap, ◌∙◌, arith}
use Rattle.std.specs.Prelude.{nat_lt, ◌&&◌}
use Rattle.std.proofs.lemmas.Bool.{lt-ltb, le-ltb}
use Rattle.omi_elf.specs.declared.fault.ElfFault.TheVariants.{Short}
use Rattle.omi_elf.specs.declared.limits.TheConstants.{MOST_ELF_BYTES, PROGRAM_HEADER_BYTES}
use Rattle.omi_elf.specs.Header.{e_phoff, e_phnum}
use Rattle.omi_elf.specs.declared.fault.ElfReadError.{ElfReadError}
use Rattle.omi_elf.specs.Table.{short_if, header_rows, program_headers_row, segment_rows, judgement}
use Rattle.omi_elf.specs.Outcomes.{ReadFails}
use Rattle.omi_elf.proofs.SegmentRows.{first_fails, next_fails}

module _ (bytes : List ℕ) where
  pub header_fails : (e : ElfReadError) → ReadFails e (header_rows MOST_ELF_BYTES bytes (length bytes)) → ReadFails e (judgement bytes)
  unfolding judgement
  header_fails e f = first_fails e (header_rows MOST_ELF_BYTES bytes (length bytes)) _ f

  pub headers_fail : (e : ElfReadError) → header_rows MOST_ELF_BYTES bytes (length bytes) ≡ Ok tt → ReadFails e (program_headers_row bytes)
      → ReadFails e (judgement bytes)
  unfolding judgement
  headers_fail e a f = next_fails e (header_rows MOST_ELF_BYTES bytes (length bytes)) _ a (first_fails e (program_headers_row bytes) _ f)

  pub rest_fails : (e : ElfReadError) → header_rows MOST_ELF_BYTES bytes (length bytes) ≡ Ok tt → program_headers_row bytes ≡ Ok tt
      → ReadFails e (segment_rows bytes) → ReadFails e (judgement bytes)
  unfolding judgement
  rest_fails e a b f = next_fails e (header_rows MOST_ELF_BYTES bytes (length bytes)) _ a (next_fails e (program_headers_row bytes) _ b f)

  pub none_fails : header_rows MOST_ELF_BYTES bytes (length bytes) ≡ Ok tt → program_headers_row bytes ≡ Ok tt → segment_rows bytes ≡ Ok tt
      → judgement bytes ≡ Ok tt
  unfolding judgement
  none_fails a b d = rw (a, b) d

-- the row of the program headers: there are none, the file ends inside them, or it has them all
pub no_headers : (bytes : List ℕ) → e_phnum bytes ≡ 0 → program_headers_row bytes ≡ Ok tt
unfolding program_headers_row
no_headers bytes none =
    let test : nat_lt 0 (e_phnum bytes) ≡ false = le-ltb 0 (e_phnum bytes) (omega (arith, none)) in
    rw test refl

pub cut_headers : (bytes : List ℕ) (len : ℕ) → length bytes ≡ len → 0 < e_phnum bytes
    → len < e_phoff bytes + PROGRAM_HEADER_BYTES * e_phnum bytes → program_headers_row bytes ≡ Err (len, Short len)
unfolding program_headers_row
cut_headers bytes len long some cut =
    let a : nat_lt 0 (e_phnum bytes) ≡ true = lt-ltb 0 (e_phnum bytes) some in
    let b : nat_lt (length bytes) (e_phoff bytes + PROGRAM_HEADER_BYTES * e_phnum bytes) ≡ true =
    lt-ltb (length bytes) (e_phoff bytes + PROGRAM_HEADER_BYTES * e_phnum bytes) (omega (arith, long, cut)) in
    let told : program_headers_row bytes ≡ Err (length bytes, Short (length bytes)) = rw (a, b) refl in
    told ∙ ap (λ (n : ℕ). Err (n, Short n)) long

pub whole_headers : (bytes : List ℕ) → e_phoff bytes + PROGRAM_HEADER_BYTES * e_phnum bytes ≤ length bytes
    → program_headers_row bytes ≡ Ok tt
unfolding program_headers_row
whole_headers bytes room =
    let b : nat_lt (length bytes) (e_phoff bytes + PROGRAM_HEADER_BYTES * e_phnum bytes) ≡ false =
    le-ltb (length bytes) (e_phoff bytes + PROGRAM_HEADER_BYTES * e_phnum bytes) room in
    by_test (nat_lt 0 (e_phnum bytes)) b
  where
    by_test : (some : Bool) → nat_lt (length bytes) (e_phoff bytes + PROGRAM_HEADER_BYTES * e_phnum bytes) ≡ false
        → short_if (length bytes) (some && nat_lt (length bytes) (e_phoff bytes + PROGRAM_HEADER_BYTES * e_phnum bytes)) ≡ Ok tt
    by_test true b = rw b refl
    by_test false b = refl
