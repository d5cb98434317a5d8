-- A step of reading gives of a front of what is left, which has all that the step takes, what it gives of all that is left.
use Rattle.std.proofs.Common.{◌≡◌, ℕ, ◌+◌, ◌-◌, ◌*◌, ◌≤◌, cond, eqb, ltb, List, ◌++◌, length, take, drop, min, Ok, Err, refl, sym, ap, subst, ◌∙◌, inl, inr, arith, take_all}
use Rattle.std.specs.Prelude.{nat_le, ◌&&◌}
use Rattle.std.specs.Int.{w64}
use Rattle.std.proofs.lemmas.Bool.{cases_lt}
use Rattle.std.proofs.lemmas.List.{take-append-drop, length-take-le, length-drop, drop-drop}
use Rattle.omi_corefile.specs.declared.fault.CoreFault.TheVariants.{SegmentOrder, TooLarge}
use Rattle.omi_corefile.specs.declared.fault.CoreError.{CoreError}
use Rattle.omi_corefile.specs.declared.fault.CoreError.TheVariants.{Fault, OutOfMemory}
use Rattle.omi_corefile.specs.Limits.{is_start}
use Rattle.omi_corefile.specs.Outcomes.{Fails as CoreFails}
use Rattle.omi_corefile.specs.Refusals.{ReadStep, contexts_at, header_at, Left}
use Rattle.omi_corefile.proofs.Fronts.{Same, Leaves, Allowed, Few, same_then, same_field, same_header, same_contexts}
use Rattle.omi_page.specs.Bounds.{bounds_at}
use Rattle.omi_page.specs.Faults.{page_error_of}
use Rattle.omi_page.specs.Outcomes.{Fails}
use Rattle.omi_page.proofs.Taking.{Took, header_took, contexts_took, bounds_took}

-- a step that takes so many bytes gives the same of a front that has them
pub record IsLocal {A : Type 0} (n : ℕ) (step : ℕ → List ℕ → ReadStep A) (Enough : A → ℕ → Type 0) : Type 0 where
  pub same : (len : ℕ) (front tail : List ℕ) → n ≤ length front
      → Same Enough tail (step len front) (step (len + length tail) (front ++ tail))
  pub took : (len : ℕ) (bytes : List ℕ) (x : A × List ℕ) → step len bytes ≡ Ok x → Took n bytes x.1

-- what was read of a front is what reading gives of all that is left, of which this stays
abbrev pub Tells : {A : Type 0} → ReadStep A → ReadStep A → List ℕ → Type 0
Tells (Ok x) whole rest = whole ≡ Ok (x.0, rest)
Tells (Err e) whole rest = whole ≡ Err e

from_same : {A : Type 0} (Enough : A → ℕ → Type 0) (tail rest : List ℕ) (front whole : ReadStep A)
    → Same Enough tail front whole
    → ((x : A × List ℕ) → whole ≡ Ok x → x.1 ≡ rest) → Tells front whole rest
from_same Enough tail rest (Ok x) whole same took =
    same.0 ∙ ap (λ (l : List ℕ). Ok (x.0, l)) (took (x.0, x.1 ++ tail) same.0)
from_same Enough tail rest (Err e) whole same took = same

from_equal : {A : Type 0} (rest : List ℕ) (front whole : ReadStep A) → front ≡ whole
    → ((x : A × List ℕ) → whole ≡ Ok x → x.1 ≡ rest) → Tells front whole rest
from_equal rest (Ok x) whole e took = sym e ∙ ap (λ (l : List ℕ). Ok (x.0, l)) (took x (sym e))
from_equal rest (Err r) whole e took = sym e

-- a front that has all that is wanted, or all that is left
pub front_tells : {A : Type 0} (n : ℕ) (step : ℕ → List ℕ → ReadStep A) (Enough : A → ℕ → Type 0)
    → IsLocal n step Enough
    → (bytes front : List ℕ) (at count : ℕ) → at ≤ length bytes → count ≡ min n (length bytes - at) → front ≡ take count (drop at bytes)
    → Tells (step (at + count) front) (step (length bytes) (drop at bytes)) (drop (at + n) bytes)
front_tells {A} n step Enough local bytes front at count within counted is =
    let here : List ℕ = drop at bytes in
    let left : length here ≡ length bytes - at = length-drop at bytes in
    let took : (x : A × List ℕ) → step (length bytes) here ≡ Ok x → x.1 ≡ drop (at + n) bytes =
    λ x e. (local.took (length bytes) here x e).left ∙ drop-drop n at bytes in
    elim (cases_lt (length here) n) [
      | inl short ↦
          let all : count ≡ length here = omega arith in
          let end : at + count ≡ length bytes = omega arith in
          from_equal (drop (at + n) bytes) (step (at + count) front) (step (length bytes) here)
          ((λ i. step (end i) (is i)) ∙ ap (step (length bytes)) (take_all count here (omega arith))) took
      | inr long ↦
          let whole : count ≡ n = omega arith in
          let tail : List ℕ = drop count here in
          let end : at + count + length tail ≡ length bytes = omega (arith, length-drop count here) in
          let both : front ++ tail ≡ here = ap (λ (l : List ℕ). l ++ tail) is ∙ take-append-drop count here in
          let enough : n ≤ length front =
          omega (arith, ap length is ∙ length-take-le count here (omega arith)) in
          from_same Enough tail (drop (at + n) bytes) (step (at + count) front) (step (length bytes) here)
          (subst (λ (y : ReadStep A). Same Enough tail (step (at + count) front) y) (λ i. step (end i) (both i)) (local.same (at + count) front tail enough)) took
    ]

-- ---- the steps

pub local_header : IsLocal 16 header_at (Few 0)
local_header = record {
  same = λ len front tail long. same_header len 0 front tail (omega (arith, long));
  took = λ len bytes x e. (header_took len bytes x e).took;
}

pub local_contexts : (count : ℕ) → IsLocal (8 * count) (λ len. contexts_at len count) (Leaves 0)
local_contexts count = record {
  same = λ len front tail long. same_contexts len 0 count front tail (omega (arith, long));
  took = λ len bytes x e. contexts_took len 0 count bytes x e;
}

abbrev pub Any : ℕ × ℕ → ℕ → Type 0
Any x k = Unit {0}

pub local_bounds : (left : Left) → IsLocal 16 (λ len. bounds_at len left) Any
local_bounds left = record {
  same = λ len front tail long.
      same_then (Allowed (is_start left.0) 8) Any tail _ _ _ _
      (same_field w64 (is_start left.0) (λ n at. SegmentOrder at) len 8 front tail (omega (arith, long)))
      (λ start rest enough. same_then (Allowed (λ n. ltb 0 n && nat_le n left.1) 0) Any tail _ _ _ _
      (same_field w64 (λ n. ltb 0 n && nat_le n left.1) (λ n at. cond (eqb n 0) (SegmentOrder at) (TooLarge n)) len 0 rest tail (omega (arith, enough.1)))
      (λ count after fits. (refl, tt)));
  took = λ len bytes x e. (bounds_took len left bytes x e).took;
}

-- ---- answers

pub told_value : {A : Type 0} (front whole : ReadStep A) (rest left : List ℕ) (x : A) → front ≡ Ok (x, left)
    → Tells front whole rest → whole ≡ Ok (x, rest)
told_value front whole rest left x e tells = subst (λ y. Tells y whole rest) e tells

pub told_fault : {A : Type 0} (error : CoreError) (front whole : ReadStep A) (rest : List ℕ)
    → CoreFails error front → Tells front whole rest → Fails (page_error_of error) whole
told_fault (Fault at why) front whole rest e tells = subst (λ y. Tells y whole rest) e tells
told_fault OutOfMemory front whole rest e tells = tt

-- what a function read of a front of a file of so many bytes: `count` bytes of `piece`, which end at `end`
pub record IsFront (bytes piece : List ℕ) (len at count end n : ℕ) : Type 0 where
  pub length_is : length bytes ≡ len
  pub within : at ≤ len
  pub counted : count ≡ min n (len - at)
  pub ends : at + count ≡ end
  pub is : take count piece ≡ take count (drop at bytes)

tells : {A : Type 0} (n : ℕ) (step : ℕ → List ℕ → ReadStep A) (Enough : A → ℕ → Type 0)
    → IsLocal n step Enough
    → (bytes piece : List ℕ) (len at count end : ℕ) → IsFront bytes piece len at count end n
    → Tells (step end (take count piece)) (step len (drop at bytes)) (drop (at + n) bytes)
tells n step Enough local bytes piece len at count end front =
    subst
    (λ (k : ℕ). Tells (step end (take count piece)) (step k (drop at bytes)) (drop (at + n) bytes)) front.length_is
    (subst (λ (k : ℕ). Tells (step k (take count piece)) (step (length bytes) (drop at bytes)) (drop (at + n) bytes)) front.ends
    (front_tells n step Enough local bytes (take count piece) at count (omega (arith, front.length_is, front.within)) (omega (arith, front.length_is, front.counted)) front.is))

pub front_value : {A : Type 0} (n : ℕ) (step : ℕ → List ℕ → ReadStep A) (Enough : A → ℕ → Type 0)
    → IsLocal n step Enough
    → (bytes piece left : List ℕ) (len at count end : ℕ) (x : A) → IsFront bytes piece len at count end n
    → step end (take count piece) ≡ Ok (x, left) → step len (drop at bytes) ≡ Ok (x, drop (at + n) bytes)
front_value n step Enough local bytes piece left len at count end x front e =
    told_value (step end (take count piece)) (step len (drop at bytes)) (drop (at + n) bytes) left x e
    (tells n step Enough local bytes piece len at count end front)

pub front_fault : {A : Type 0} (n : ℕ) (step : ℕ → List ℕ → ReadStep A) (Enough : A → ℕ → Type 0)
    → IsLocal n step Enough
    → (bytes piece : List ℕ) (len at count end : ℕ) (error : CoreError) → IsFront bytes piece len at count end n
    → CoreFails error (step end (take count piece)) → Fails (page_error_of error) (step len (drop at bytes))
front_fault n step Enough local bytes piece len at count end error front e =
    told_fault error (step end (take count piece)) (step len (drop at bytes)) (drop (at + n) bytes) e
    (tells n step Enough local bytes piece len at count end front)
