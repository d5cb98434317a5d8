-- What the tests of the kept segments say.
use Rattle.std.proofs.Common.{◌≡◌, ℕ, ◌+◌, ◌<◌, ◌≤◌, Bool, true, List, [], ◌∷◌, None, arith}
use Rattle.std.specs.Prelude.{All, filter, find, ◌%◌, ◌&&◌, ◌==◌, nat_le, nat_lt}
use Rattle.std.specs.List.{list_all}
use Rattle.std.proofs.lemmas.Bool.{and_parts, eqb-true, leb-true, ltb-true, not-false}
use Rattle.std.proofs.lemmas.List.Elements.{All-nil, All-cons, All-weaker, All-same, filter_passes}
use Rattle.omi_word.specs.declared.limits.TheConstants.{FIRST_ADDRESS, MEMORY_END}
use Rattle.omi_elf.specs.declared.limits.TheConstants.{LOAD_SEGMENT, MOST_ELF_BYTES}
use Rattle.omi_elf.specs.declared.program_header.ProgramHeader.{ProgramHeader}
use Rattle.omi_elf.specs.Header.{is_kept, rounded_size, word_count}
use Rattle.omi_elf.specs.Table.{lies_within, is_unaligned}
use Rattle.omi_elf.specs.Found.{IsReadable, IsBounded}
use Rattle.omi_elf.proofs.Passed.{none_found}

pub all_passes : {X : Type 0} (p : X → Bool) (xs : List X) → list_all p xs ≡ true → All (λ x. p x ≡ true) xs
all_passes p [] e = All-nil (λ x. p x ≡ true)
all_passes p (x ∷ xs) e =
    let q = and_parts (p x) (list_all p xs) e in
    All-cons (λ y. p y ≡ true) x xs q.0 (all_passes p xs q.1)

-- a kept segment, fact by fact
pub record Kept (h : ProgramHeader) : Type 0 where
  pub high : FIRST_ADDRESS ≤ h.p_vaddr
  pub low : h.p_vaddr < MEMORY_END
  pub some : 1 ≤ word_count h

pub kept_is : (h : ProgramHeader) → is_kept h ≡ true → Kept h
kept_is h e =
    let a = and_parts (h.p_type == LOAD_SEGMENT && nat_le FIRST_ADDRESS h.p_vaddr && nat_lt h.p_vaddr MEMORY_END) (nat_le 8 (rounded_size h)) e in
    let b = and_parts (h.p_type == LOAD_SEGMENT && nat_le FIRST_ADDRESS h.p_vaddr) (nat_lt h.p_vaddr MEMORY_END) a.0 in
    let c = and_parts (h.p_type == LOAD_SEGMENT) (nat_le FIRST_ADDRESS h.p_vaddr) b.0 in
    let some = leb-true 8 (rounded_size h) a.1 in
    record {
      high = leb-true FIRST_ADDRESS h.p_vaddr c.1;
      low = ltb-true h.p_vaddr MEMORY_END b.1;
      some = omega (arith, some);
    }

pub all_kept : (hs : List ProgramHeader) → All Kept (filter is_kept hs)
all_kept hs = All-weaker (λ h. is_kept h ≡ true) Kept kept_is (filter is_kept hs) (filter_passes is_kept hs)

pub readable_from : (len : ℕ) (hs : List ProgramHeader) → list_all (lies_within len) hs ≡ true → All (IsReadable len) hs
readable_from len hs e =
    All-weaker (λ h. lies_within len h ≡ true) (IsReadable len) (λ h q. record { within = leb-true (h.p_offset + rounded_size h) len q }) hs (all_passes (lies_within len) hs e)

pub bounded_from : (len : ℕ) (hs ks : List ProgramHeader) → len ≤ MOST_ELF_BYTES
    → ks ≡ filter is_kept hs → list_all (lies_within len) ks ≡ true → All IsBounded ks
bounded_from len hs ks short e q = λ k d lt.
    let kept = All-same Kept ks (filter is_kept hs) e (all_kept hs) k d lt in
    let read = readable_from len ks q k d lt in
    record { few = omega (arith, read.within); low = kept.low }

pub aligned_from : (hs : List ProgramHeader) → find is_unaligned hs ≡ None → All (λ h. h.p_vaddr % 8 ≡ 0) hs
aligned_from hs none = λ k d lt. eqb-true _ 0 (not-false _ (none_found is_unaligned hs none k d lt))
