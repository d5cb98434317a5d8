-- What a stable sort by start leaves is the list in the order of the definition.
use Rattle.std.proofs.Common.{◌≡◌, ℕ, suc, ◌<◌, ◌≤◌, eqb, List, [], ◌∷◌, length, get_or, refl, sym, ◌∙◌, inl, inr, arith}
use Rattle.std.specs.Prelude.{not, ◌&&◌}
use Rattle.std.specs.Ordering.{is_lt, nat_cmp}
use Rattle.std.specs.List.Sorted.{IsNonDecreasingBy, IsStableByKey, ties}
use Rattle.std.proofs.lemmas.Bool.{cases_order, eq-eqb, ne_eqb, lt-ltb, le-ltb}
use Rattle.std.proofs.lemmas.List.Elements.{filter_agree}
use Rattle.omi_elf.specs.declared.program_header.ProgramHeader.{ProgramHeader}
use Rattle.omi_elf.specs.Segments.{by_start}
use Rattle.omi_elf.proofs.NoteSegments.{no_header}
use Rattle.omi_elf.proofs.Order.{StartFrom, Rises, starting, one_order, by_start-rises, by_start-starting}

start_from : (hs : List ProgramHeader) (n : ℕ)
    → ((k : ℕ) → k < length hs → n ≤ (get_or hs k no_header).p_vaddr) → StartFrom n hs
start_from [] n h = tt
start_from (x ∷ xs) n h = (h 0 (omega arith), start_from xs n (λ k lt. h (suc k) (omega (arith, lt))))

pub rises_by : (hs : List ProgramHeader) → IsNonDecreasingBy (λ h. h.p_vaddr) hs → Rises hs
rises_by [] up = tt
rises_by (x ∷ xs) up = (
  start_from xs x.p_vaddr (λ k lt. up 0 (suc k) no_header (omega arith) (omega (arith, lt))),
  rises_by xs (λ i j d le lt. up (suc i) (suc j) d (omega (arith, le)) (omega (arith, lt))),
)

-- neither start is below the other
ties_are : (m n : ℕ) → (not (is_lt (nat_cmp m n)) && not (is_lt (nat_cmp n m))) ≡ eqb n m
ties_are m n =
    elim (cases_order m n) [
      | inl same ↦
          let a = le-ltb m n (omega (arith, same)) in let b = le-ltb n m (omega (arith, same)) in
          let d = eq-eqb m n same in let e = eq-eqb n m (sym same) in
          rw (a, b, d, e) refl
      | inr other ↦ elim other [
        | inl below ↦ let a = lt-ltb m n below in let b = ne_eqb n m (λ q. omega (arith, q, below)) in rw (a, b) refl
        | inr above ↦
            let a = lt-ltb n m above in let b = le-ltb m n (omega (arith, above)) in
            let d = ne_eqb m n (λ q. omega (arith, q, above)) in
            let e = ne_eqb n m (λ q. omega (arith, q, above)) in
            rw (a, b, d, e) refl
      ]
    ]

-- a header that starts at this address
abbrev pub starts_at : ℕ → ProgramHeader
starts_at n = record { start_place = 0; p_type = 0; p_offset = 0; p_vaddr = n; p_filesz = 0 }

stable_starting : (old new : List ProgramHeader) → IsStableByKey (λ (h : ProgramHeader). h.p_vaddr) nat_cmp old new
    → (n : ℕ) → starting n new ≡ starting n old
stable_starting old new stable n =
    let lt = λ (x y : ProgramHeader). is_lt (nat_cmp x.p_vaddr y.p_vaddr) in
    let agree = λ (hs : List ProgramHeader). filter_agree (ties lt (starts_at n)) (λ h. eqb h.p_vaddr n) (λ h. ties_are n h.p_vaddr) hs in
    sym (agree new) ∙ stable (starts_at n) ∙ agree old

pub sorted_is : (old new : List ProgramHeader) → IsNonDecreasingBy (λ (h : ProgramHeader). h.p_vaddr) new
    → IsStableByKey (λ (h : ProgramHeader). h.p_vaddr) nat_cmp old new → new ≡ by_start old
sorted_is old new up stable =
    one_order new (by_start old) (rises_by new up) (by_start-rises old)
    (λ n. stable_starting old new stable n ∙ sym (by_start-starting n old))
