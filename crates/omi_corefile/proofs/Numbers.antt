-- A field that was read is the field as it is written, and what was written is read again.
use Rattle.std.proofs.Common.{◌≡◌, ℕ, suc, ◌+◌, ◌^◌, ◌<◌, ◌≤◌, Bool, true, false, cond, eqb, ltb, List, [], ◌∷◌, ◌++◌, length, take, drop, Result, Ok, Err, refl, sym, ap, subst, ◌∙◌, append_assoc, arith, inl, inr}
use Rattle.std.specs.Prelude.{codes, nat_eq}
use Rattle.std.specs.List.{starts_with}
use Rattle.std.specs.Int.{Width, w16, w32, w64, byte_len, from_le_bytes, from_be_bytes, to_le_bytes, to_be_bytes}
use Rattle.std.specs.Cmp.Lexicographic.{same_text}
use Rattle.std.proofs.lemmas.Bool.{cases_lt, ltb-false, le-ltb}
use Rattle.std.proofs.lemmas.List.{take-append-drop, length-append, length-take, get_or-drop, get_or-take, get_or_past}
use Rattle.std.proofs.lemmas.Nat.{le_bytes_2, le_bytes_4, le_bytes_8, from_le_bytes-to_le_bytes_2, from_le_bytes-to_le_bytes_4, from_le_bytes-to_le_bytes_8, be_bytes_8, from_be_bytes-to_be_bytes_8}
use Rattle.omi_corefile.specs.ByteOrder.{word_bytes, number_of}
use Rattle.omi_corefile.specs.declared.fault.CoreFault.{CoreFault}
use Rattle.omi_corefile.specs.declared.fault.CoreFault.TheVariants.{BadMagic}
use Rattle.omi_corefile.specs.Refusals.{ReadRefusal, ReadStep, ◌>>=◌, AreBytes, short, value_at, number_at, byte_at, judged, magic_at}

-- ---- steps

-- a step that did not fail had a value
pub bind_ok : {A B : Type 0} (read : Result A ReadRefusal) (f : A → Result B ReadRefusal) (y : B)
    → (read >>= f) ≡ Ok y → (x : A) × (read ≡ Ok x) × (f x ≡ Ok y)
bind_ok (Ok x) f y e = (x, refl, e)
bind_ok (Err d) f y e = absurd cc

-- a step that had a value goes on with it
pub bind_again : {A B : Type 0} (read : Result A ReadRefusal) (f : A → Result B ReadRefusal) (x : A)
    → read ≡ Ok x → (read >>= f) ≡ f x
bind_again read f x e = rw e refl

-- a test that did not fail
pub passed : {A : Type 0} (b : Bool) (r : ReadRefusal) (x y : A) → cond b (Ok x) (Err r) ≡ Ok y
    → (b ≡ true) × (x ≡ y)
passed true r x y e = (refl, cc)
passed false r x y e = absurd cc

-- a test for a fault that did not show it
pub not_failed : {A : Type 0} (b : Bool) (r : ReadRefusal) (read : Result A ReadRefusal) (y : A)
    → cond b (Err r) read ≡ Ok y → (b ≡ false) × (read ≡ Ok y)
not_failed true r read y e = absurd cc
not_failed false r read y e = (refl, e)

pub ok_is : {A : Type 0} (x y : A) → (let good : A → Result A ReadRefusal = λ a. Ok a in good x ≡ good y) → x ≡ y
ok_is x y e = cc

-- ---- bytes

pub AreBytes-drop : (n : ℕ) (bytes : List ℕ) → AreBytes bytes → AreBytes (drop n bytes)
AreBytes-drop n bytes are k = rw get_or-drop (are (n + k))

pub AreBytes-take : (n : ℕ) (bytes : List ℕ) → AreBytes bytes → AreBytes (take n bytes)
AreBytes-take n bytes are k =
    elim (cases_lt k n) [
      | inl below ↦ rw (get_or-take n bytes k 0 below) (are k)
      | inr above ↦ rw (get_or_past (take n bytes) k 0 (omega (arith, length-take n bytes))) (omega arith)
    ]

-- this text was taken from the front, and the rest is left
pub record Takes (bytes text rest : List ℕ) : Type 0 where
  pub parts : bytes ≡ text ++ rest
  pub rest_are_bytes : AreBytes rest

pub Takes-then : (a x b y c : List ℕ) → Takes a x b → Takes b y c → Takes a (x ++ y) c
Takes-then a x b y c p q = record { parts = p.parts ∙ ap (λ (t : List ℕ). x ++ t) q.parts ∙ sym (append_assoc x y c); rest_are_bytes = q.rest_are_bytes }

pub Takes-drop : (n : ℕ) (bytes : List ℕ) → AreBytes bytes → Takes bytes (take n bytes) (drop n bytes)
Takes-drop n bytes are = record { parts = sym (take-append-drop n bytes); rest_are_bytes = AreBytes-drop n bytes are }

-- ---- numbers

-- the numbers below `limit` are spelled in so many bytes, which tell them again
pub record IsSpelled (count : ℕ) (value : List ℕ → ℕ) (spell : ℕ → List ℕ) (limit : ℕ) : Type 0 where
  pub len : (n : ℕ) → length (spell n) ≡ count
  pub written : (bytes : List ℕ) → length bytes ≡ count → AreBytes bytes → spell (value bytes) ≡ bytes
  pub read : (n : ℕ) → n < limit → value (spell n) ≡ n
  pub below : (bytes : List ℕ) → AreBytes bytes → value bytes < limit

-- the numbers below `limit` are those of this width
abbrev pub HasWidth : Width → ℕ → Type 0
HasWidth w limit = IsSpelled (byte_len w) (from_le_bytes w) (to_le_bytes w) limit

pub width16 : HasWidth w16 (2 ^ 16)
width16 = record {
  len = λ n. refl;
  written = λ bytes len are. le_bytes_2 bytes _ len are refl;
  read = λ n below. from_le_bytes-to_le_bytes_2 n below;
  below = λ bytes are. omega (arith, are 0, are 1);
}

pub width32 : HasWidth w32 (2 ^ 32)
width32 = record {
  len = λ n. refl;
  written = λ bytes len are. le_bytes_4 bytes _ len are refl;
  read = λ n below. from_le_bytes-to_le_bytes_4 n below;
  below = λ bytes are. omega (arith, are 0, are 1, are 2, are 3);
}

pub width64 : HasWidth w64 (2 ^ 64)
width64 = record {
  len = λ n. refl;
  written = λ bytes len are. le_bytes_8 bytes _ len are refl;
  read = λ n below. from_le_bytes-to_le_bytes_8 n below;
  below = λ bytes are. omega (arith, are 0, are 1, are 2, are 3, are 4, are 5, are 6, are 7);
}

-- the words of both orders
width_by : (b : Bool)
    → IsSpelled 8 (λ bytes. cond b (from_le_bytes w64 bytes) (from_be_bytes w64 bytes)) (λ n. cond b (to_le_bytes w64 n) (to_be_bytes w64 n)) (2 ^ 64)
width_by true = width64
width_by false = record {
  len = λ n. refl;
  written = λ bytes len are. be_bytes_8 bytes _ len are refl;
  read = λ n below. from_be_bytes-to_be_bytes_8 n below;
  below = λ bytes are. omega (arith, are 0, are 1, are 2, are 3, are 4, are 5, are 6, are 7);
}

pub word_width : (order : ℕ) → IsSpelled 8 (number_of order) (word_bytes order) (2 ^ 64)
word_width order = width_by (eqb order 0)

pub value_taken : (count : ℕ) (value : List ℕ → ℕ) (spell : ℕ → List ℕ) (limit : ℕ) (is : IsSpelled count value spell limit) (len : ℕ) (bytes : List ℕ) (x : ℕ × List ℕ)
    → AreBytes bytes → value_at count value len bytes ≡ Ok x → Takes bytes (spell x.0) x.1 × (x.0 < limit)
value_taken count value spell limit is len bytes x are e =
    let front : List ℕ = take count bytes in
    let got : ℕ × List ℕ = (value front, drop count bytes) in
    let went = not_failed (ltb (length bytes) count) (short len) (Ok got) x e in
    let long : count ≤ length bytes = ltb-false _ _ went.0 in
    let front_are : AreBytes front = AreBytes-take count bytes are in
    let written : spell (value front) ≡ front =
    is.written front (omega (arith, length-take count bytes)) front_are in
    let taken : Takes bytes (spell got.0) got.1 =
    subst (λ (text : List ℕ). Takes bytes text (drop count bytes)) (sym written)
    (Takes-drop count bytes are) in
    subst (λ (y : ℕ × List ℕ). Takes bytes (spell y.0) y.1 × (y.0 < limit)) {x = got}
    (ok_is got x went.1) (taken, is.below front front_are)

pub number_taken : (w : Width) (limit : ℕ) (width : HasWidth w limit) (len : ℕ) (bytes : List ℕ) (x : ℕ × List ℕ)
    → AreBytes bytes → number_at w len bytes ≡ Ok x → Takes bytes (to_le_bytes w x.0) x.1 × (x.0 < limit)
number_taken w limit width = value_taken (byte_len w) (from_le_bytes w) (to_le_bytes w) limit width

pub byte_taken : (len : ℕ) (bytes : List ℕ) (x : ℕ × List ℕ) → AreBytes bytes → byte_at len bytes ≡ Ok x
    → Takes bytes (x.0 ∷ []) x.1
byte_taken len [] x are e = absurd cc
byte_taken len (b ∷ bytes) x are e =
    subst (λ (y : ℕ × List ℕ). Takes (b ∷ bytes) (y.0 ∷ []) y.1) (ok_is (b, bytes) x e)
    (record { parts = refl; rest_are_bytes = λ k. are (suc k) })

-- ---- judgements

pub judged_taken : (allowed : ℕ → Bool) (fault : ℕ → ℕ → CoreFault) (at : ℕ) (read : ReadStep ℕ) (x : ℕ × List ℕ)
    → judged allowed fault at read ≡ Ok x → (read ≡ Ok x) × (allowed x.0 ≡ true)
judged_taken allowed fault at (Ok n) x e =
    let went = passed (allowed n.0) (at, fault n.0 at) n x e in
    (ap (λ (y : ℕ × List ℕ). Ok y) went.1, subst (λ (y : ℕ × List ℕ). allowed y.0 ≡ true) went.1 went.0)
judged_taken allowed fault at (Err d) x e = absurd cc

-- ---- the name of the format

pub magic_taken : (len : ℕ) (bytes rest : List ℕ) → AreBytes bytes → magic_at len bytes ≡ Ok rest
    → Takes bytes (codes "OMPDCOR1") rest
unfolding magic_at
magic_taken len bytes rest are e =
    let name : List ℕ = codes "OMPDCOR1" in
    let went =
    not_failed (ltb (length bytes) 8) (short len)
    (cond (starts_with nat_eq bytes name) (Ok (drop 8 bytes)) (Err (0, BadMagic))) rest e in
    let went_on = passed (starts_with nat_eq bytes name) (0, BadMagic) (drop 8 bytes) rest went.1 in
    let front : name ≡ take 8 bytes = same_text name (take 8 bytes) (sym went_on.0) in
    let taken : Takes bytes name (drop 8 bytes) =
    subst (λ (text : List ℕ). Takes bytes text (drop 8 bytes)) (sym front) (Takes-drop 8 bytes are) in
    subst (λ (r : List ℕ). Takes bytes name r) went_on.1 taken

pub magic_again : (len : ℕ) (rest : List ℕ) → magic_at len (codes "OMPDCOR1" ++ rest) ≡ Ok rest
unfolding magic_at
magic_again len rest =
    let long : ltb (length (codes "OMPDCOR1" ++ rest)) 8 ≡ false =
    le-ltb _ _ (omega (arith, length-append (codes "OMPDCOR1") rest)) in
    rw long refl
