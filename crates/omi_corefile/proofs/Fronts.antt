-- A front of a file that is longer than any core tells all of the file: reading it answers what reading the file does.
use Rattle.std.proofs.Common.{◌≡◌, ℕ, zero, suc, ◌+◌, ◌*◌, ◌-◌, ◌<◌, ◌≤◌, Bool, true, false, cond, eqb, ltb, List, [], ◌∷◌, ◌++◌, length, take, drop, Result, Ok, Err, refl, sym, ap, subst, ◌∙◌, arith, length-append, leb-false}
use Rattle.std.specs.Prelude.{codes, nat_eq, nat_le, ◌&&◌}
use Rattle.std.specs.List.{starts_with}
use Rattle.std.specs.Int.{Width, w16, w32, w64, byte_len, from_le_bytes}
use Rattle.std.proofs.lemmas.Bool.{and_parts, le-ltb, leb-true, ne_eqb}
use Rattle.std.proofs.lemmas.List.{take-append-drop, take-append-le, drop-append-le, length-drop, length-take-le, take_all}
use Rattle.omi_corefile.specs.declared.core_image.CoreImage.{CoreImage}
use Rattle.omi_corefile.specs.declared.segment.Segment.{Segment}
use Rattle.omi_corefile.specs.declared.fault.CoreFault.{CoreFault}
use Rattle.omi_corefile.specs.declared.fault.CoreFault.TheVariants.{BadMagic, Version, Order, Trailing, TooLarge, SegmentOrder, BadContext}
use Rattle.omi_corefile.specs.declared.limits.TheConstants.{MOST_BYTES, MOST_CONTEXTS, MOST_SEGMENTS}
use Rattle.omi_corefile.specs.ByteOrder.{is_order, number_of}
use Rattle.omi_corefile.specs.Limits.{is_start}
use Rattle.omi_corefile.specs.Refusals.{ReadRefusal, ReadStep, ◌>>=◌, place_in_file, byte_at, value_at, number_at, word_at, judged, magic_at, id_at, row_at, contexts_at, words_at, Left, left_after, segment_at, segments_at, Header, header_at, Parts, parts_at, reading}
use Rattle.omi_corefile.specs.Spelling.{Core, spelling}
use Rattle.omi_corefile.proofs.Bounds.{bounds}
use Rattle.omi_corefile.proofs.FileLaws.{ended}
use Rattle.omi_corefile.proofs.Lengths.{length-spelling_of}

-- What a step gives of a front of a file, and what it gives of the front and a tail: the same fault, or the same value. What is left of the front has enough for what comes next.
abbrev pub Same : {A : Type 0} → (A → ℕ → Type 0) → List ℕ → ReadStep A → ReadStep A → Type 0
Same Enough tail (Ok x) whole = (whole ≡ Ok (x.0, x.1 ++ tail)) × Enough x.0 (length x.1)
Same Enough tail (Err e) whole = whole ≡ Err e

-- one step after another
pub same_then : {A B : Type 0} (Enough : A → ℕ → Type 0) (After : B → ℕ → Type 0) (tail : List ℕ) (front whole : ReadStep A) (f g : A × List ℕ → ReadStep B)
    → Same Enough tail front whole
    → ((x : A) (rest : List ℕ) → Enough x (length rest) → Same After tail (f (x, rest)) (g (x, rest ++ tail))) → Same After tail (front >>= f) (whole >>= g)
same_then Enough After tail (Ok x) whole f g same then =
    subst (λ y. Same After tail (f x) (y >>= g)) (sym same.0) (then x.0 x.1 same.1)
same_then Enough After tail (Err e) whole f g same then = ap (λ y. y >>= g) same

-- the same step, where less is enough
same_less : {A : Type 0} (Enough After : A → ℕ → Type 0) (tail : List ℕ) (front whole : ReadStep A)
    → Same Enough tail front whole → ((x : A) (k : ℕ) → Enough x k → After x k) → Same After tail front whole
same_less Enough After tail (Ok x) whole same less = (same.0, less x.0 (length x.1) same.1)
same_less Enough After tail (Err e) whole same less = same

-- at least so many bytes are left
abbrev pub Leaves : {A : Type 0} → ℕ → A → ℕ → Type 0
Leaves more x k = more ≤ k

same_byte : (len other more : ℕ) (front tail : List ℕ) → 1 + more ≤ length front
    → Same (Leaves more) tail (byte_at len front) (byte_at other (front ++ tail))
same_byte len other more [] tail long = absurd (omega (arith, long))
same_byte len other more (b ∷ front) tail long = (refl, omega (arith, long))

same_value : (count : ℕ) (value : List ℕ → ℕ) (len other more : ℕ) (front tail : List ℕ)
    → count + more ≤ length front
    → Same (Leaves more) tail (value_at count value len front) (value_at count value other (front ++ tail))
same_value count value len other more front tail long =
    let here : ltb (length front) count ≡ false = le-ltb _ _ (omega (arith, long)) in
    let there : ltb (length (front ++ tail)) count ≡ false =
    le-ltb _ _ (omega (arith, long, length-append front tail)) in
    rw
    (here, there, take-append-le count front tail (omega (arith, long)), drop-append-le count front tail (omega (arith, long)))
    (refl, omega (arith, long, length-drop count front))

same_number : (w : Width) (len other more : ℕ) (front tail : List ℕ) → byte_len w + more ≤ length front
    → Same (Leaves more) tail (number_at w len front) (number_at w other (front ++ tail))
same_number w = same_value (byte_len w) (from_le_bytes w)

-- a number that a rule judges
abbrev pub Allowed : (ℕ → Bool) → ℕ → ℕ → ℕ → Type 0
Allowed allowed more n k = (allowed n ≡ true) × (more ≤ k)

same_judged : (allowed : ℕ → Bool) (fault : ℕ → ℕ → CoreFault) (at other more : ℕ) (tail : List ℕ) (front whole : ReadStep ℕ)
    → at ≡ other → Same (Leaves more) tail front whole
    → Same (Allowed allowed more) tail (judged allowed fault at front) (judged allowed fault other whole)
same_judged allowed fault at other more tail (Ok x) whole here same =
    rw (same.0, ← here) (by_test (allowed x.0) refl)
  where
    by_test : (b : Bool) → allowed x.0 ≡ b
        → Same (Allowed allowed more) tail (cond b (Ok x) (Err (at, fault x.0 at))) (cond b (Ok (x.0, x.1 ++ tail)) (Err (at, fault x.0 at)))
    by_test true e = (refl, (e, same.1))
    by_test false e = refl
same_judged allowed fault at other more tail (Err e) whole here same = ap (judged allowed fault other) same

-- a place is the same in a front and in the whole
same_place : (len : ℕ) (front tail : List ℕ)
    → place_in_file len front ≡ place_in_file (len + length tail) (front ++ tail)
same_place len front tail = omega (arith, length-append front tail)

-- a number that a rule judges by where it stands
pub same_field : (w : Width) (allowed : ℕ → Bool) (fault : ℕ → ℕ → CoreFault) (len more : ℕ) (front tail : List ℕ)
    → byte_len w + more ≤ length front
    → Same (Allowed allowed more) tail
    (judged allowed fault (place_in_file len front) (number_at w len front))
    (judged allowed fault (place_in_file (len + length tail) (front ++ tail)) (number_at w (len + length tail) (front ++ tail)))
same_field w allowed fault len more front tail long =
    same_judged allowed fault (place_in_file len front)
    (place_in_file (len + length tail) (front ++ tail)) more tail _ _ (same_place len front tail)
    (same_number w len (len + length tail) more front tail long)

-- a row of fields: before each one there is enough for it and for those after it
abbrev Ended : {S A : Type 0} → (ℕ → S → ℕ → Type 0) → ℕ → List A → ℕ → Type 0
Ended {S} {A} Enough count row k = (length row ≡ count) × ((s : S) × Enough 0 s k)

same_row : {S A : Type 0} (Enough : ℕ → S → ℕ → Type 0) (one other : S → List ℕ → ReadStep A) (next : S → A → S) (tail : List ℕ)
    →
    ((count : ℕ) (s : S) (front : List ℕ) → Enough (suc count) s (length front) → Same (λ x k. Enough count (next s x) k) tail (one s front) (other s (front ++ tail)))
    → (count : ℕ) (s : S) (front : List ℕ) → Enough count s (length front) → Same (Ended Enough count) tail (row_at one next count s front) (row_at other next count s (front ++ tail))
unfolding row_at
same_row Enough one other next tail each zero s front enough = (refl, (refl, (s, enough)))
same_row {S} {A} Enough one other next tail each (suc count) s front enough =
    same_then (λ x k. Enough count (next s x) k) (Ended Enough (suc count)) tail (one s front)
    (other s (front ++ tail)) _ _ (each count s front enough)
    (λ first rest more. same_then (Ended Enough count) (Ended Enough (suc count)) tail (row_at one next count (next s first) rest) (row_at other next count (next s first) (rest ++ tail)) _ _
    (same_row Enough one other next tail each count (next s first) rest more)
    (λ others left ended. (refl, (ap suc ended.0, ended.1))))

-- enough for numbers of eight bytes in a row
abbrev Numbers : ℕ → ℕ → ℕ → ℕ → Type 0
Numbers more count s k = 8 * count + more ≤ k

-- so many words
abbrev Words : ℕ → ℕ → List ℕ → ℕ → Type 0
Words count more row k = (length row ≡ count) × (more ≤ k)

same_words : (len order more count : ℕ) (front tail : List ℕ) → 8 * count + more ≤ length front
    → Same (Words count more) tail (words_at len order count front)
    (words_at (len + length tail) order count (front ++ tail))
same_words len order more count front tail long =
    same_less (Ended (Numbers more) count) (Words count more) tail _ _
    (same_row (Numbers more) (λ s. word_at order len) (λ s. word_at order (len + length tail)) (λ s word. s) tail
    (λ rest s bytes enough. same_value 8 (number_of order) len (len + length tail) (8 * rest + more) bytes tail (omega (arith, enough))) count 0 front long)
    (λ row k ended. (ended.0, omega (arith, ended.1.1)))

pub same_contexts : (len more count : ℕ) (front tail : List ℕ) → 8 * count + more ≤ length front
    → Same (Leaves more) tail (contexts_at len count front)
    (contexts_at (len + length tail) count (front ++ tail))
same_contexts len more count front tail long =
    same_less (Ended (Numbers more) count) (Leaves more) tail _ _
    (same_row (Numbers more) (id_at len) (id_at (len + length tail)) (λ least id. id + 1) tail
    (λ rest least bytes enough. same_less (Allowed (nat_le least) (8 * rest + more)) _ tail _ _
    (same_field w64 (nat_le least) (λ n at. BadContext at) len (8 * rest + more) bytes tail (omega (arith, enough)))
    (λ id k allowed. allowed.1)) count 0 front long)
    (λ row k ended. omega (arith, ended.1.1))

-- enough for segments in a row, with so much room for words
abbrev Room : ℕ → ℕ → Left → ℕ → Type 0
Room more count left k = 16 * count + 8 * left.1 + more ≤ k

-- enough for the segments behind one
abbrev Behind : ℕ → ℕ → Left → Segment → ℕ → Type 0
Behind more count left s k = Room more count (left_after left s) k

same_segment : (len order more count : ℕ) (left : Left) (front tail : List ℕ)
    → Room more (suc count) left (length front)
    → Same (Behind more count left) tail (segment_at len order left front)
    (segment_at (len + length tail) order left (front ++ tail))
unfolding segment_at
same_segment len order more count left front tail long =
    let behind : ℕ = 16 * count + 8 * left.1 + more in
    same_then (Allowed (is_start left.0) (8 + behind)) (Behind more count left) tail _ _ _ _
    (same_field w64 (is_start left.0) (λ n at. SegmentOrder at) len (8 + behind) front tail (omega (arith, long)))
    (λ start rest enough. same_then (Allowed (λ n. ltb 0 n && nat_le n left.1) behind) (Behind more count left) tail _ _ _ _
    (same_field w64 (λ n. ltb 0 n && nat_le n left.1) (λ n at. cond (eqb n 0) (SegmentOrder at) (TooLarge n)) len behind rest tail (omega (arith, enough.1)))
    (λ number bytes fits.
    let within : number ≤ left.1 =
    leb-true number left.1 (and_parts (ltb 0 number) (nat_le number left.1) fits.0).1 in
    same_then (Words number (16 * count + 8 * (left.1 - number) + more)) (Behind more count left) tail _ _ _ _
    (same_words len order (16 * count + 8 * (left.1 - number) + more) number bytes tail (omega (arith, within, fits.1)))
    (λ words after read. (refl, omega (arith, read.0, read.1)))))

same_segments : (len order more count : ℕ) (front tail : List ℕ) → 16 * count + 8388608 + more ≤ length front
    → Same (Leaves more) tail (segments_at len order count front)
    (segments_at (len + length tail) order count (front ++ tail))
same_segments len order more count front tail long =
    same_less (Ended (Room more) count) (Leaves more) tail _ _
    (same_row (Room more) (segment_at len order) (segment_at (len + length tail) order) left_after tail (λ rest left bytes enough. same_segment len order more rest left bytes tail enough) count _ front long)
    (λ row k ended. omega (arith, ended.1.1))

-- the same of the name of the format, which has no value
abbrev SameRest : ℕ → List ℕ → Result (List ℕ) ReadRefusal → Result (List ℕ) ReadRefusal → Type 0
SameRest more tail (Ok rest) whole = (whole ≡ Ok (rest ++ tail)) × (more ≤ length rest)
SameRest more tail (Err e) whole = whole ≡ Err e

same_magic : (len other more : ℕ) (front tail : List ℕ) → 8 + more ≤ length front
    → SameRest more tail (magic_at len front) (magic_at other (front ++ tail))
unfolding magic_at
same_magic len other more front tail long =
    let here : ltb (length front) 8 ≡ false = le-ltb _ _ (omega (arith, long)) in
    let there : ltb (length (front ++ tail)) 8 ≡ false =
    le-ltb _ _ (omega (arith, long, length-append front tail)) in
    rw
    (here, there, take-append-le 8 front tail (omega (arith, long)), drop-append-le 8 front tail (omega (arith, long)))
    (by_test (starts_with nat_eq front (codes "OMPDCOR1")))
  where
    by_test : (b : Bool)
        → SameRest more tail (cond b (Ok (drop 8 front)) (Err (0, BadMagic))) (cond b (Ok (drop 8 front ++ tail)) (Err (0, BadMagic)))
    by_test true = (refl, omega (arith, long, length-drop 8 front))
    by_test false = refl

magic_then : {B : Type 0} (After : B → ℕ → Type 0) (more : ℕ) (tail : List ℕ) (front whole : Result (List ℕ) ReadRefusal) (f g : List ℕ → ReadStep B)
    → SameRest more tail front whole
    → ((rest : List ℕ) → more ≤ length rest → Same After tail (f rest) (g (rest ++ tail))) → Same After tail (front >>= f) (whole >>= g)
magic_then After more tail (Ok rest) whole f g same then =
    subst (λ y. Same After tail (f rest) (y >>= g)) (sym same.0) (then rest same.1)
magic_then After more tail (Err e) whole f g same then = ap (λ y. y >>= g) same

-- a header, with few contexts and segments
abbrev pub Few : ℕ → Header → ℕ → Type 0
Few more counts k = (counts.contexts ≤ MOST_CONTEXTS) × (counts.segments ≤ MOST_SEGMENTS) × (more ≤ k)

pub same_header : (len more : ℕ) (front tail : List ℕ) → 16 + more ≤ length front
    → Same (Few more) tail (header_at len front) (header_at (len + length tail) (front ++ tail))
unfolding header_at
same_header len more front tail long =
    let other : ℕ = len + length tail in
    magic_then (Few more) (8 + more) tail _ _ _ _
    (same_magic len other (8 + more) front tail (omega (arith, long)))
    (λ a a_long. same_then (Allowed (λ v. eqb v 1) (7 + more)) (Few more) tail _ _ _ _
    (same_judged (λ v. eqb v 1) (λ v at. Version v) _ _ (7 + more) tail _ _ (same_place len a tail) (same_byte len other (7 + more) a tail (omega (arith, a_long))))
    (λ version b b_long. same_then (Allowed is_order (6 + more)) (Few more) tail _ _ _ _
    (same_judged is_order (λ v at. Order v) _ _ (6 + more) tail _ _ (same_place len b tail) (same_byte len other (6 + more) b tail (omega (arith, b_long.1))))
    (λ order c c_long. same_then (Allowed (λ n. nat_le n 64) (4 + more)) (Few more) tail _ _ _ _
    (same_field w16 (λ n. nat_le n MOST_CONTEXTS) (λ n at. BadContext at) len (4 + more) c tail (omega (arith, c_long.1)))
    (λ contexts d d_long. same_then (Allowed (λ n. nat_le n 64) more) (Few more) tail _ _ _ _
    (same_field w32 (λ n. nat_le n MOST_SEGMENTS) (λ n at. SegmentOrder at) len more d tail (omega (arith, d_long.1)))
    (λ segments e e_long. (refl, (leb-true contexts MOST_CONTEXTS d_long.0, leb-true segments MOST_SEGMENTS e_long.0, e_long.1)))))))

same_parts : (len more : ℕ) (front tail : List ℕ) → 8390160 + more ≤ length front
    → Same (Leaves more) tail (parts_at len front) (parts_at (len + length tail) (front ++ tail))
unfolding parts_at
same_parts len more front tail long =
    same_then (Few (8390144 + more)) (Leaves more) tail _ _ _ _
    (same_header len (8390144 + more) front tail (omega (arith, long)))
    (λ counts a few. same_then (Leaves (8389632 + more)) (Leaves more) tail _ _ _ _ (same_contexts len (8389632 + more) counts.contexts a tail (omega (arith, few.0, few.2)))
    (λ contexts b enough. same_then (Leaves more) (Leaves more) tail _ _ _ _ (same_segments len counts.order more counts.segments b tail (omega (arith, few.1, enough)))
    (λ segments c left. (refl, left))))

-- what a front of more bytes than a core can have is, the whole is
front_tells : (front tail : List ℕ) → MOST_BYTES + 1 ≤ length front → reading front ≡ reading (front ++ tail)
unfolding reading
front_tells front tail long =
    go (parts_at (length front) front) (parts_at (length front + length tail) (front ++ tail))
    (same_parts (length front) 1 front tail (omega (arith, long)))
    ∙ ap (λ (len : ℕ). parts_at len (front ++ tail) >>= ended len) (sym (length-append front tail))
  where
    go : (a b : ReadStep Parts) → Same (Leaves 1) tail a b
        → (a >>= ended (length front)) ≡ (b >>= ended (length front + length tail))
    go (Err e) b same = rw same refl
    go (Ok x) b same =
        let here : eqb (length x.1) 0 ≡ false = ne_eqb (length x.1) 0 (λ none. omega (arith, same.1, none)) in
        let there : eqb (length (x.1 ++ tail)) 0 ≡ false =
        ne_eqb (length (x.1 ++ tail)) 0 (λ none. omega (arith, same.1, none, length-append x.1 tail)) in
        rw (same.0, here, there) (ap (λ (at : ℕ). Err (at, Trailing at)) (same_place (length front) x.1 tail))

-- the first 8,390,161 bytes of a file tell what the file is
pub front_enough : (bytes : List ℕ) → reading (take (MOST_BYTES + 1) bytes) ≡ reading bytes
front_enough bytes = go (nat_le (length bytes) (MOST_BYTES + 1)) refl
  where
    go : (b : Bool) → nat_le (length bytes) (MOST_BYTES + 1) ≡ b
        → reading (take (MOST_BYTES + 1) bytes) ≡ reading bytes
    go true e = ap reading (take_all (MOST_BYTES + 1) bytes (leb-true (length bytes) (MOST_BYTES + 1) e))
    go false e =
        let long : MOST_BYTES + 1 < length bytes = leb-false (length bytes) (MOST_BYTES + 1) e in
        let front : length (take (MOST_BYTES + 1) bytes) ≡ MOST_BYTES + 1 =
        length-take-le (MOST_BYTES + 1) bytes (omega arith) in
        front_tells (take (MOST_BYTES + 1) bytes) (drop (MOST_BYTES + 1) bytes) (omega (arith, front))
        ∙ ap reading (take-append-drop (MOST_BYTES + 1) bytes)

-- a core has at most MOST_BYTES
core_short : (bytes : List ℕ) (c : CoreImage) → Core bytes c → length bytes ≤ MOST_BYTES
core_short bytes c is =
    let b = bounds c in
    let same : length bytes ≡ length (spelling c) = ap (λ (xs : List ℕ). length xs) is in
    let long = length-spelling_of c.order c.contexts c.segments in
    omega (arith, same, long, b.few_contexts, b.few_segments, b.few_words)

-- so its first 8,390,161 bytes say whether a file is a core, and which
pub front_core : (bytes : List ℕ) (c : CoreImage) → Core (take (MOST_BYTES + 1) bytes) c → Core bytes c
front_core bytes c is = go (nat_le (length bytes) (MOST_BYTES + 1)) refl
  where
    go : (b : Bool) → nat_le (length bytes) (MOST_BYTES + 1) ≡ b → Core bytes c
    go true e = sym (take_all (MOST_BYTES + 1) bytes (leb-true (length bytes) (MOST_BYTES + 1) e)) ∙ is
    go false e =
        let long : MOST_BYTES + 1 < length bytes = leb-false (length bytes) (MOST_BYTES + 1) e in
        let front : length (take (MOST_BYTES + 1) bytes) ≡ MOST_BYTES + 1 =
        length-take-le (MOST_BYTES + 1) bytes (omega arith) in
        let short = core_short (take (MOST_BYTES + 1) bytes) c is in
        absurd (omega (arith, front, short))
