-- The number of a function by its name, among functions under distinct names.
use Rattle.std.proofs.Common.{◌≡◌, ℕ, zero, suc, ◌<◌, ◌≤◌, ◌+◌, ◌-◌, Bool, true, false, not, cond, ◌||◌, ◌&&◌, ◌==◌, List, [], ◌∷◌, ◌++◌, length, map, replicate, drop, Some, None, refl, sym, ap, ◌∙◌, arith}
use Rattle.std.specs.Prelude.{position, bytes_eq, slice_get, nat_lt, nat_le}
use Rattle.std.specs.List.{list_all, list_any, position_or_len}
use Rattle.std.proofs.lemmas.Bool.{lt-ltb, leb-true, eqb-true}
use Rattle.std.proofs.lemmas.List.{length-drop, take-append-drop, length-take-le}
use Rattle.std.proofs.lemmas.Option.{slice_get_within}
use Rattle.std.proofs.lemmas.Slice.Eq.{bytes_eq-Decides}
use Rattle.omi_script.specs.Names.{are_distinct, is_name, is_name_text, name_of, text_of}
use Rattle.omi_script.specs.ParserState.{is_called}
use Rattle.omi_script.specs.declared.function.Func.{Func}
use Rattle.omi_script.specs.declared.limits.TheConstants.{MAX_NAME}
use Rattle.omi_script.specs.declared.name.Name.{Name}
use Rattle.omi_script.proofs.Conjunctions.{and_left, and_right, not_so}
use Rattle.omi_script.proofs.SoundLines.{left_false, right_false}

-- the names of functions
abbrev pub names_of : List Func → List (List ℕ)
names_of fs = map (λ (f : Func). text_of f.name) fs

-- equal names pass the test
pub same_bytes : (w : List ℕ) → bytes_eq w w ≡ true
same_bytes w = (bytes_eq-Decides w w).1 refl

-- where no name passes, that of a function among them doesn't
none_among : (p : List ℕ → Bool) (fs : List Func) (k : ℕ) (f : Func) → slice_get fs k ≡ Some f
    → list_any p (names_of fs) ≡ false → p (text_of f.name) ≡ false
none_among p [] k f e h = absurd (cc)
none_among p (g ∷ fs) zero f e h =
    let same : g ≡ f = cc e in sym (ap (λ (x : Func). p (text_of x.name)) same) ∙ left_false (p (text_of g.name)) (list_any p (names_of fs)) h
none_among p (g ∷ fs) (suc k) f e h =
    none_among p fs k f e (right_false (p (text_of g.name)) (list_any p (names_of fs)) h)

-- the number of a function, by its name
pub place_by_name : (fs : List Func) (k : ℕ) (f : Func) → are_distinct (names_of fs) ≡ true
    → slice_get fs k ≡ Some f → position_or_len (is_called (text_of f.name)) fs ≡ k
place_by_name [] k f d e = absurd (cc)
place_by_name (g ∷ fs) zero f d e =
    let same : g ≡ f = cc e in
    ap (λ b. cond (not b) (1 + position_or_len (is_called (text_of f.name)) fs) 0)
    (ap (λ (x : Func). bytes_eq (text_of x.name) (text_of f.name)) same ∙ same_bytes (text_of f.name))
place_by_name (g ∷ fs) (suc k) f d e =
    let other : bytes_eq (text_of g.name) (text_of f.name) ≡ false =
    none_among (bytes_eq (text_of g.name)) fs k f e
    (not_so (list_any (bytes_eq (text_of g.name)) (names_of fs)) (and_left (not (list_any (bytes_eq (text_of g.name)) (names_of fs))) (are_distinct (names_of fs)) d)) in
    let rest : position_or_len (is_called (text_of f.name)) fs ≡ k =
    place_by_name fs k f
    (and_right (not (list_any (bytes_eq (text_of g.name)) (names_of fs))) (are_distinct (names_of fs)) d) e in
    ap (λ b. cond (not b) (1 + position_or_len (is_called (text_of f.name)) fs) 0) other ∙ omega (arith, rest)

-- a function is found by its name
pub position_of : (fs : List Func) (k : ℕ) (f : Func) → are_distinct (names_of fs) ≡ true
    → slice_get fs k ≡ Some f → position (is_called (text_of f.name)) fs ≡ Some k
position_of fs k f d e =
    ap (λ n. cond (nat_lt n (length fs)) (Some n) None) (place_by_name fs k f d e)
    ∙ ap (λ b. cond b (Some k) None) (lt-ltb k (length fs) (slice_get_within fs k f e))

passes_not : (p : List ℕ → Bool) (fs : List Func) (f : Func) (gs : List Func)
    → list_any p (names_of (fs ++ f ∷ gs)) ≡ false → p (text_of f.name) ≡ false
passes_not p [] f gs h = left_false (p (text_of f.name)) (list_any p (names_of gs)) h
passes_not p (g ∷ fs) f gs h =
    passes_not p fs f gs (right_false (p (text_of g.name)) (list_any p (names_of (fs ++ f ∷ gs))) h)

-- no function above has the name of one further on
pub new_name : (fs : List Func) (f : Func) (gs : List Func) → are_distinct (names_of (fs ++ f ∷ gs)) ≡ true
    → list_any (is_called (text_of f.name)) fs ≡ false
new_name [] f gs d = refl
new_name (g ∷ fs) f gs d =
    let rest : List Func = fs ++ f ∷ gs in
    let other : bytes_eq (text_of g.name) (text_of f.name) ≡ false =
    passes_not (bytes_eq (text_of g.name)) fs f gs
    (not_so (list_any (bytes_eq (text_of g.name)) (names_of rest)) (and_left (not (list_any (bytes_eq (text_of g.name)) (names_of rest))) (are_distinct (names_of rest)) d)) in
    ap (λ b. b || list_any (is_called (text_of f.name)) fs) other
    ∙ new_name fs f gs
    (and_right (not (list_any (bytes_eq (text_of g.name)) (names_of rest))) (are_distinct (names_of rest)) d)

not_any : (p : List ℕ → Bool) (fs gs : List Func) → list_any p (names_of (fs ++ gs)) ≡ false
    → list_any p (names_of fs) ≡ false
not_any p [] gs h = refl
not_any p (f ∷ fs) gs h =
    ap (λ b. b || list_any p (names_of fs))
    (left_false (p (text_of f.name)) (list_any p (names_of (fs ++ gs))) h)
    ∙ not_any p fs gs (right_false (p (text_of f.name)) (list_any p (names_of (fs ++ gs))) h)

-- the first of functions under distinct names have distinct names
pub distinct_first : (fs gs : List Func) → are_distinct (names_of (fs ++ gs)) ≡ true
    → are_distinct (names_of fs) ≡ true
distinct_first [] gs d = refl
distinct_first (f ∷ fs) gs d =
    let rest : Bool = not (list_any (bytes_eq (text_of f.name)) (names_of (fs ++ gs))) in
    ap (λ b. not b && are_distinct (names_of fs))
    (not_any (bytes_eq (text_of f.name)) fs gs (not_so (list_any (bytes_eq (text_of f.name)) (names_of (fs ++ gs))) (and_left rest (are_distinct (names_of (fs ++ gs))) d)))
    ∙ distinct_first fs gs (and_right rest (are_distinct (names_of (fs ++ gs))) d)

-- a function of the first ones stands at the same place of all
pub get_of_first : (fs gs : List Func) (k : ℕ) (f : Func) → slice_get fs k ≡ Some f
    → slice_get (fs ++ gs) k ≡ Some f
get_of_first [] gs k f e = absurd (cc)
get_of_first (g ∷ fs) gs zero f e = e
get_of_first (g ∷ fs) gs (suc k) f e = get_of_first fs gs k f e

-- the tests of a name, one by one
pub record NameTests (n : Name) : Type 0 where
  pub text : is_name_text (text_of n) ≡ true
  pub size : nat_le n.len MAX_NAME ≡ true
  pub zeros : list_all (λ b. b == 0) (drop n.len n.bytes) ≡ true
  pub width : (length n.bytes == MAX_NAME) ≡ true

pub name_tests : (n : Name) → is_name n ≡ true → NameTests n
name_tests n h =
    let text : Bool = is_name_text (text_of n) in
    let size : Bool = nat_le n.len MAX_NAME in
    let zeros : Bool = list_all (λ b. b == 0) (drop n.len n.bytes) in
    let first : (text && size && zeros) ≡ true =
    and_left (text && size && zeros) (length n.bytes == MAX_NAME) h in
    record {
      text = and_left text size (and_left (text && size) zeros first);
      size = and_right text size (and_left (text && size) zeros first);
      zeros = and_right (text && size) zeros first;
      width = and_right (text && size && zeros) (length n.bytes == MAX_NAME) h;
    }

-- a name's bytes are one
pub name_text : (n : Name) → is_name n ≡ true → is_name_text (text_of n) ≡ true
name_text n h = (name_tests n h).text

-- the function with a number, and its name
pub get_named : (fs : List Func) (k : ℕ) → k < length fs → list_all (λ (f : Func). is_name f.name) fs ≡ true
    → (f : Func) × (slice_get fs k ≡ Some f) × (is_name_text (text_of f.name) ≡ true)
get_named [] k l h = absurd (omega arith)
get_named (f ∷ fs) zero l h =
    (f, refl, name_text f.name (and_left (is_name f.name) (list_all (λ (g : Func). is_name g.name) fs) h))
get_named (f ∷ fs) (suc k) l h =
    get_named fs k (omega arith) (and_right (is_name f.name) (list_all (λ (g : Func). is_name g.name) fs) h)

-- bytes that are all 0
pub zeros_are : (bs : List ℕ) → list_all (λ b. b == 0) bs ≡ true → bs ≡ replicate (length bs) 0
zeros_are [] h = refl
zeros_are (b ∷ bs) h =
    ap (λ x. x ∷ bs) (eqb-true b 0 (and_left (b == 0) (list_all (λ x. x == 0) bs) h))
    ∙ ap (λ xs. 0 ∷ xs) (zeros_are bs (and_right (b == 0) (list_all (λ x. x == 0) bs) h))

-- a name is the name of its bytes
pub name_of-text_of : (n : Name) → is_name n ≡ true → name_of (text_of n) ≡ n
name_of-text_of n h =
    let tests : NameTests n = name_tests n h in
    let l : length n.bytes ≡ MAX_NAME = eqb-true (length n.bytes) MAX_NAME tests.width in
    let short : n.len ≤ MAX_NAME = leb-true n.len MAX_NAME tests.size in
    let len : length (text_of n) ≡ n.len = length-take-le n.len n.bytes (omega arith) in
    let left : length (drop n.len n.bytes) ≡ MAX_NAME - length (text_of n) =
    omega (arith, length-drop n.len n.bytes) in
    let zeros : drop n.len n.bytes ≡ replicate (MAX_NAME - length (text_of n)) 0 =
    zeros_are (drop n.len n.bytes) tests.zeros ∙ ap (λ k. replicate k 0) left in
    let bytes : text_of n ++ replicate (MAX_NAME - length (text_of n)) 0 ≡ n.bytes =
    sym (ap (λ bs. text_of n ++ bs) zeros) ∙ take-append-drop n.len n.bytes in
    let of_len : ℕ → Name =
    λ k. record { len = k; bytes = text_of n ++ replicate (MAX_NAME - length (text_of n)) 0 } in
    let of_bytes : List ℕ → Name = λ bs. record { len = n.len; bytes = bs } in
    ap of_len len ∙ ap of_bytes bytes
