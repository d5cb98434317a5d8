-- What is told while a file is read or written, and a text put, in pieces.
use Rattle.std.proofs.Common.{◌≡◌, ℕ, ◌*◌, ◌<◌, ◌+◌, ◌-◌, ◌≤◌, List, ◌++◌, Option, Some, None, length, min, take, drop, refl, sym, ◌∙◌, ap, take-add, append_assoc, [], take_all, arith}
use Rattle.std.specs.Option.{option_map}
use Rattle.std.proofs.lemmas.Grind.{common_steps}
use Rattle.std.proofs.lemmas.List.{take-append-le, append-nil}
use Rattle.omi_outside.specs.Outside.{Told, holding, extended, put_on}
use Rattle.omi_outside.specs.declared.limits.TheConstants.{PIECE}

pub extended-holding : (told : Told) (front more : List ℕ)
    → extended (holding told front) more ≡ holding told (front ++ more)
extended-holding None front more = refl
extended-holding (Some content) front more = refl

-- one piece more
pub held_more : (before now after : Told) (bytes : List ℕ) (at end : ℕ) → at ≤ end
    → now ≡ holding before (take at bytes)
    → after ≡ extended now (take (end - at) (drop at bytes)) → after ≡ holding before (take end bytes)
held_more before now after bytes at end within so_far added =
    let is_end : at + (end - at) ≡ end = omega arith in
    added ∙ ap (λ told. extended told (take (end - at) (drop at bytes))) so_far
    ∙ extended-holding before (take at bytes) (take (end - at) (drop at bytes))
    ∙ ap (holding before) (sym (take-add at (end - at) bytes) ∙ ap (λ (n : ℕ). take n bytes) is_end)

taken : (bytes : List ℕ) (at most : ℕ) → at ≡ min (length bytes) most → take at bytes ≡ take most bytes
taken bytes at most is = grind (arith, common_steps, take_all {A = ℕ})

-- the whole was read once as many bytes are there as were wanted
pub read_all : (content : Option (List ℕ)) (whole : List ℕ) (size most wanted at : ℕ)
    → Some size ≡ option_map length content
    → wanted ≡ min size most → at ≡ wanted → ((bytes : List ℕ) → content ≡ Some bytes → whole ≡ take at bytes)
    → (bytes : List ℕ) × (content ≡ Some bytes) × (whole ≡ take most bytes)
read_all None whole size most wanted at is_size is_wanted is_at so_far = absurd (cc)
read_all (Some bytes) whole size most wanted at is_size is_wanted is_at so_far =
    let size_is : size ≡ length bytes = cc in
    (bytes, refl, so_far bytes refl ∙ taken bytes at most (omega arith))

-- what is told of a name stays where all that is told does
pub still_told : (before now : List ℕ → Told) (name : List ℕ) (told : Told) → now ≡ before
    → before name ≡ told → now name ≡ told
still_told before now name told same is = ap (λ t. t name) same ∙ is

-- one piece more was read
pub read_more : (bytes front after piece rest : List ℕ) (at count : ℕ) → count ≤ length piece
    → after ≡ front ++ take count (piece ++ rest) → front ≡ take at bytes
    → take count piece ≡ take count (drop at bytes) → after ≡ take (at + count) bytes
read_more bytes front after piece rest at count fits added so_far read =
    added ∙ ap (λ (l : List ℕ). front ++ l) (take-append-le count piece rest fits ∙ read)
    ∙ ap (λ (l : List ℕ). l ++ take count (drop at bytes)) so_far ∙ sym (take-add at count bytes)

-- a sink that was given no bytes is as before
pub put_none : (old : Option (List ℕ)) → old ≡ put_on old []
put_none None = refl
put_none (Some bytes) = ap (λ (l : List ℕ). Some l) (sym (append-nil bytes))

put_on-put_on : (old : Option (List ℕ)) (front more : List ℕ)
    → put_on (put_on old front) more ≡ put_on old (front ++ more)
put_on-put_on None front more = refl
put_on-put_on (Some bytes) front more = ap (λ (l : List ℕ). Some l) (append_assoc bytes front more)

-- one piece more was put
pub put_more : (before now after : Option (List ℕ)) (bytes : List ℕ) (at end : ℕ) → at ≤ end
    → now ≡ put_on before (take at bytes)
    → after ≡ put_on now (take (end - at) (drop at bytes)) → after ≡ put_on before (take end bytes)
put_more before now after bytes at end within so_far added =
    let is_end : at + (end - at) ≡ end = omega arith in
    added ∙ ap (λ told. put_on told (take (end - at) (drop at bytes))) so_far
    ∙ put_on-put_on before (take at bytes) (take (end - at) (drop at bytes))
    ∙ ap (put_on before) (sym (take-add at (end - at) bytes) ∙ ap (λ (n : ℕ). take n bytes) is_end)

-- one piece more
pub next_piece : (len at end : ℕ) → at < len → (count : ℕ) × (at ≡ min len (count * PIECE))
    → end ≡ min (len - at) PIECE → (count : ℕ) × (at + end ≡ min len (count * PIECE))
next_piece len at end inside (count, is) is_end = (count + 1, omega (arith, inside, is, is_end))
