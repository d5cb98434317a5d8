-- Reading fields of one kind in a row, as a loop does.
use Rattle.std.proofs.Common.{◌≡◌, ℕ, suc, ◌-◌, ◌+◌, ◌≤◌, ◌<◌, List, [], ◌∷◌, ◌++◌, Ok, Err, refl, sym, ap, ◌∙◌, append_assoc, arith}
use Rattle.std.proofs.lemmas.List.{append-nil}
use Rattle.omi_corefile.specs.declared.fault.CoreError.{CoreError}
use Rattle.omi_corefile.specs.declared.fault.CoreError.TheVariants.{Fault, OutOfMemory}
use Rattle.omi_corefile.specs.Outcomes.{Fails}
use Rattle.omi_corefile.specs.Refusals.{ReadStep, ◌>>=◌, row_at}

-- what stands in front of a row that is still read
abbrev pub with_front : {A : Type 0} → List A → ReadStep (List A) → ReadStep (List A)
with_front front read = read >>= λ x. Ok (front ++ x.0, x.1)

-- the first of a row that is still read moves to the front
first_to_front : {A : Type 0} (front : List A) (first : A) (read : ReadStep (List A))
    → with_front front (read >>= λ others. Ok (first ∷ others.0, others.1)) ≡ with_front (front ++ first ∷ []) read
first_to_front {A} front first (Ok x) =
    ap (λ (row : List A). Ok (row, x.1)) (sym (append_assoc front (first ∷ []) x.0))
first_to_front front first (Err e) = refl

-- one more was read
pub goes_on : {S A : Type 0} (one : S → List ℕ → ReadStep A) (next : S → A → S) (front : List A) (count i : ℕ) (s : S) (bytes : List ℕ) (x : A) (after : List ℕ) (total : ReadStep (List A))
    → i < count → one s bytes ≡ Ok (x, after)
    → with_front front (row_at one next (count - i) s bytes) ≡ total → with_front (front ++ x ∷ []) (row_at one next (count - (i + 1)) (next s x) after) ≡ total
unfolding row_at
goes_on one next front count i s bytes x after total below read so_far =
    let more : count - i ≡ suc (count - (i + 1)) = omega arith in
    let moved : with_front front (row_at one next (count - i) s bytes) ≡ with_front (front ++ x ∷ []) (row_at one next (count - (i + 1)) (next s x) after) =
    rw (more, read) (first_to_front front x (row_at one next (count - (i + 1)) (next s x) after)) in
    sym moved ∙ so_far

-- one has a fault, or memory ran out
pub row_fails : {S A : Type 0} (e : CoreError) (one : S → List ℕ → ReadStep A) (next : S → A → S) (front : List A) (count i : ℕ) (s : S) (bytes : List ℕ) (total : ReadStep (List A))
    → i < count → Fails e (one s bytes)
    → with_front front (row_at one next (count - i) s bytes) ≡ total → Fails e total
unfolding row_at
row_fails OutOfMemory one next front count i s bytes total below read so_far = tt
row_fails (Fault at why) one next front count i s bytes total below read so_far =
    let more : count - i ≡ suc (count - (i + 1)) = omega arith in
    let failed : with_front front (row_at one next (count - i) s bytes) ≡ Err (at, why) =
    rw (more, read) refl in
    sym so_far ∙ failed

-- all were read
pub row_ends : {S A : Type 0} (one : S → List ℕ → ReadStep A) (next : S → A → S) (front : List A) (count i : ℕ) (s : S) (bytes : List ℕ) (total : ReadStep (List A))
    → count ≤ i
    → with_front front (row_at one next (count - i) s bytes) ≡ total → total ≡ Ok (front, bytes)
unfolding row_at
row_ends {S} {A} one next front count i s bytes total done so_far =
    let none : count - i ≡ 0 = omega arith in
    let ended : with_front front (row_at one next (count - i) s bytes) ≡ Ok (front, bytes) =
    rw none (ap (λ (row : List A). Ok (row, bytes)) (append-nil front)) in
    sym so_far ∙ ended
