-- A step that reads a text whatever follows it, and finds each proper front of the text too short.
use Rattle.std.proofs.Common.{◌≡◌, ℕ, ◌+◌, ◌-◌, ◌<◌, Bool, true, false, ltb, List, [], ◌∷◌, ◌++◌, length, take, Result, Ok, Err, refl, ap, ◌∙◌, append_assoc, arith, inl, inr, length-append}
use Rattle.std.specs.Int.{Width, byte_len, from_le_bytes, to_le_bytes}
use Rattle.std.proofs.Math.Seq.{take-append-add}
use Rattle.std.proofs.lemmas.Bool.{cases_lt, lt-ltb, le-ltb}
use Rattle.std.proofs.lemmas.List.{take_at, drop_at, take-append-le, length-take-le}
use Rattle.omi_corefile.specs.declared.fault.CoreFault.{CoreFault}
use Rattle.omi_corefile.specs.Refusals.{ReadRefusal, ReadStep, ◌>>=◌, short, value_at, number_at, byte_at, judged}
use Rattle.omi_corefile.proofs.Numbers.{bind_again, HasWidth, IsSpelled}

pub record Reads {A : Type 0} (len : ℕ) (one : List ℕ → ReadStep A) (text : List ℕ) (x : A) : Type 0 where
  pub whole : (rest : List ℕ) → one (text ++ rest) ≡ Ok (x, rest)
  pub cut : (n : ℕ) → n < length text → one (take n text) ≡ Err (short len)

-- a step that failed fails what follows it
pub bind_failed : {A B : Type 0} (read : Result A ReadRefusal) (f : A → Result B ReadRefusal) (r : ReadRefusal)
    → read ≡ Err r → (read >>= f) ≡ Err r
bind_failed read f r e = rw e refl

-- nothing is read
pub Reads-none : {A : Type 0} (len : ℕ) (x : A) → Reads len (λ bytes. Ok (x, bytes)) [] x
Reads-none len x = record { whole = λ rest. refl; cut = λ n below. absurd (omega (arith, below)) }

-- one step after another
pub Reads-then : {A B : Type 0} (len : ℕ) (one : List ℕ → ReadStep A) (two : A → List ℕ → ReadStep B) (a b : List ℕ) (x : A) (y : B)
    → Reads len one a x → Reads len (two x) b y
    → Reads len (λ bytes. one bytes >>= λ v. two v.0 v.1) (a ++ b) y
Reads-then {A} {B} len one two a b x y p q =
    let follow : A × List ℕ → ReadStep B = λ v. two v.0 v.1 in
    let both : List ℕ → ReadStep B = λ bytes. one bytes >>= follow in
    record {
      whole = λ rest. ap both (append_assoc a b rest) ∙ bind_again (one (a ++ (b ++ rest))) follow (x, b ++ rest) (p.whole (b ++ rest)) ∙ q.whole rest;
      cut = λ n below. elim (cases_lt n (length a)) [
        | inl inside ↦ ap both (take-append-le n a b (omega arith)) ∙ bind_failed (one (take n a)) follow (short len) (p.cut n inside)
        | inr past ↦
            let m : ℕ = n - length a in
            let split : n ≡ length a + m = omega arith in
            let fronts : take n (a ++ b) ≡ a ++ take m b =
            ap (λ (k : ℕ). take k (a ++ b)) split ∙ take-append-add a b m in
            ap both fronts
            ∙ bind_again (one (a ++ take m b)) follow (x, take m b) (p.whole (take m b))
            ∙ q.cut m (omega (arith, length-append a b))
      ];
    }

-- a step, seen by a function
pub Reads-map : {A B : Type 0} (len : ℕ) (one : List ℕ → ReadStep A) (f : A → B) (a : List ℕ) (x : A)
    → Reads len one a x → Reads len (λ bytes. one bytes >>= λ v. Ok (f v.0, v.1)) a (f x)
Reads-map {A} {B} len one f a x p =
    let follow : A × List ℕ → ReadStep B = λ v. Ok (f v.0, v.1) in
    record {
      whole = λ rest. bind_again (one (a ++ rest)) follow (x, rest) (p.whole rest);
      cut = λ n below. bind_failed (one (take n a)) follow (short len) (p.cut n below);
    }

pub Reads-value : (count : ℕ) (value : List ℕ → ℕ) (spell : ℕ → List ℕ) (limit : ℕ) (is : IsSpelled count value spell limit) (len n : ℕ)
    → n < limit → Reads len (value_at count value len) (spell n) n
Reads-value count value spell limit is len n below =
    let so_long = is.len n in
    record {
      whole = λ rest.
          let long : ltb (length (spell n ++ rest)) count ≡ false =
          le-ltb _ _ (omega (arith, length-append (spell n) rest)) in
          rw (long, take_at (spell n) rest count so_long, drop_at (spell n) rest count so_long, is.read n below) refl;
      cut = λ k inside.
          let too_short : ltb (length (take k (spell n))) count ≡ true =
          lt-ltb _ _ (omega (arith, length-take-le k (spell n) (omega arith))) in
          rw too_short refl;
    }

pub Reads-number : (w : Width) (limit : ℕ) (width : HasWidth w limit) (len n : ℕ) → n < limit
    → Reads len (number_at w len) (to_le_bytes w n) n
Reads-number w limit width = Reads-value (byte_len w) (from_le_bytes w) (to_le_bytes w) limit width

pub Reads-byte : (len n : ℕ) → Reads len (byte_at len) (n ∷ []) n
Reads-byte len n = record {
  whole = λ rest. refl;
  cut = λ k inside. let none : k ≡ 0 = omega (arith, inside) in rw none refl;
}

-- a number that is allowed
pub Reads-judged : (len : ℕ) (allowed : ℕ → Bool) (fault : ℕ → ℕ → CoreFault) (at : List ℕ → ℕ) (one : List ℕ → ReadStep ℕ) (a : List ℕ) (x : ℕ)
    → Reads len one a x → allowed x ≡ true
    → Reads len (λ bytes. judged allowed fault (at bytes) (one bytes)) a x
Reads-judged len allowed fault at one a x p good = record {
  whole = λ rest. let e = p.whole rest in rw (e, good) refl;
  cut = λ n inside. let e = p.cut n inside in rw e refl;
}
