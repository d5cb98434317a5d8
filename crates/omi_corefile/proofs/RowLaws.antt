-- A row that was read is the row as it is written, and a row that was written is read again.
use Rattle.std.proofs.Common.{◌≡◌, ℕ, zero, suc, ◌+◌, ◌%◌, ◌^◌, ◌<◌, ◌≤◌, cond, eqb, ltb, leb, List, [], ◌∷◌, ◌++◌, length, Ok, refl, sym, ap, subst, append_assoc, arith}
use Rattle.std.specs.Prelude.{IsTrue, ◌&&◌}
use Rattle.std.specs.List.{flat_map}
use Rattle.std.specs.Int.{w64}
use Rattle.std.proofs.lemmas.Bool.{and_parts, and_from, leb-true, le-leb, ltb-true, lt-ltb}
use Rattle.std.proofs.lemmas.List.Concat.{flat_map-cons}
use Rattle.std.proofs.lemmas.List.Sums.{sum_by-cons}
use Rattle.omi_corefile.specs.declared.segment.Segment.{Segment}
use Rattle.omi_corefile.specs.declared.fault.CoreFault.TheVariants.{SegmentOrder, TooLarge, BadContext}
use Rattle.omi_corefile.specs.Limits.{rises_from, are_words, is_start, end_of, rise_apart_from, total_words}
use Rattle.omi_word.specs.declared.limits.TheConstants.{FIRST_ADDRESS, MEMORY_END}
use Rattle.omi_corefile.specs.declared.limits.TheConstants.{MOST_SEGMENT_WORDS}
use Rattle.omi_corefile.specs.ByteOrder.{word_bytes, number_of}
use Rattle.omi_corefile.specs.Spelling.{eight_bytes, numbers, words_in, segment_bytes}
use Rattle.omi_corefile.specs.Refusals.{ReadStep, ◌>>=◌, AreBytes, number_at, word_at, row_at, id_at, contexts_at, words_at, start_at, word_count_at, Left, left_after, segment_at, segments_at, place_in_file}
use Rattle.omi_corefile.proofs.Numbers.{bind_ok, ok_is, Takes, Takes-then, width64, word_width, number_taken, value_taken, judged_taken}
use Rattle.omi_corefile.proofs.Readings.{Reads, Reads-none, Reads-then, Reads-map, Reads-value, Reads-number, Reads-judged}

-- each of a row is good by the state that the ones before it leave
abbrev pub AreGood : {S A : Type 0} → (S → A → Type 0) → (S → A → S) → S → List A → Type 0
AreGood Good next s [] = Unit {0}
AreGood Good next s (x ∷ xs) = Good s x × AreGood Good next (next s x) xs

-- what is read of a row: its fields were taken, so many of them, and each is good
pub record TakesRow {S A : Type 0} (Good : S → A → Type 0) (next : S → A → S) (spell : A → List ℕ) (count : ℕ) (s : S) (bytes : List ℕ) (row : List A) (rest : List ℕ) : Type 0 where
  pub taken : Takes bytes (flat_map spell row) rest
  pub so_many : length row ≡ count
  pub good : AreGood Good next s row

pub row_taken : {S A : Type 0} (Good : S → A → Type 0) (one : S → List ℕ → ReadStep A) (next : S → A → S) (spell : A → List ℕ)
    →
    ((s : S) (bytes : List ℕ) (x : A × List ℕ) → AreBytes bytes → one s bytes ≡ Ok x → Takes bytes (spell x.0) x.1 × Good s x.0)
    → (count : ℕ) (s : S) (bytes : List ℕ) (x : List A × List ℕ) → AreBytes bytes → row_at one next count s bytes ≡ Ok x → TakesRow Good next spell count s bytes x.0 x.1
unfolding row_at
row_taken {S} {A} Good one next spell each zero s bytes x are e =
    subst (λ (y : List A × List ℕ). TakesRow Good next spell zero s bytes y.0 y.1) (ok_is ([], bytes) x e) (record { taken = record { parts = refl; rest_are_bytes = are }; so_many = refl; good = tt })
row_taken {S} {A} Good one next spell each (suc count) s bytes x are e =
    let a =
    bind_ok (one s bytes)
    (λ first. row_at one next count (next s first.0) first.1 >>= λ others. Ok (first.0 ∷ others.0, others.1)) x e in
    let b = bind_ok (row_at one next count (next s a.0.0) a.0.1) (λ others. Ok (a.0.0 ∷ others.0, others.1)) x a.2 in
    let first = each s bytes a.0 are a.1 in
    let others =
    row_taken Good one next spell each count (next s a.0.0) a.0.1 b.0 first.0.rest_are_bytes b.1 in
    let both = Takes-then bytes (spell a.0.0) a.0.1 (flat_map spell b.0.0) b.0.1 first.0 others.taken in
    let made : List A × List ℕ = (a.0.0 ∷ b.0.0, b.0.1) in
    subst (λ (y : List A × List ℕ). TakesRow Good next spell (suc count) s bytes y.0 y.1) {x = made}
    (ok_is made x b.2)
    (record { taken = rw flat_map-cons both; so_many = ap suc others.so_many; good = (first.1, others.good) })

pub Reads-row : {S A : Type 0} (len : ℕ) (Good : S → A → Type 0) (one : S → List ℕ → ReadStep A) (next : S → A → S) (spell : A → List ℕ)
    → ((s : S) (x : A) → Good s x → Reads len (one s) (spell x) x)
    → (s : S) (row : List A) → AreGood Good next s row → Reads len (row_at one next (length row) s) (flat_map spell row) row
unfolding row_at
Reads-row {S} {A} len Good one next spell each s [] good = Reads-none len []
Reads-row {S} {A} len Good one next spell each s (x ∷ row) good =
    let others : Reads len (row_at one next (length row) (next s x)) (flat_map spell row) row =
    Reads-row len Good one next spell each (next s x) row good.1 in
    Reads-then len (one s)
    (λ (first : A) bytes. row_at one next (length row) (next s first) bytes >>= λ others. Ok (first ∷ others.0, others.1))
    (spell x) (flat_map spell row) x (x ∷ row) (each s x good.0)
    (Reads-map len (row_at one next (length row) (next s x)) (λ (others : List A). x ∷ others) (flat_map spell row) row others)

-- ---- words

abbrev IsWord : ℕ → ℕ → Type 0
IsWord s word = word < 2 ^ 64

abbrev stays : ℕ → ℕ → ℕ
stays s word = s

are_words-good : (row : List ℕ) (s : ℕ) → AreGood IsWord stays s row → IsTrue (are_words row)
are_words-good [] s good = refl
are_words-good (x ∷ row) s good =
    and_from (ltb x (2 ^ 64)) (are_words row) (lt-ltb x (2 ^ 64) good.0) (are_words-good row s good.1)

good-are_words : (row : List ℕ) (s : ℕ) → IsTrue (are_words row) → AreGood IsWord stays s row
good-are_words [] s all = tt
good-are_words (x ∷ row) s all =
    let both = and_parts (ltb x (2 ^ 64)) (are_words row) all in
    (ltb-true x (2 ^ 64) both.0, good-are_words row s both.1)

pub words_taken : (len order count : ℕ) (bytes : List ℕ) (x : List ℕ × List ℕ) → AreBytes bytes
    → words_at len order count bytes ≡ Ok x
    → Takes bytes (words_in order x.0) x.1 × (length x.0 ≡ count) × IsTrue (are_words x.0)
words_taken len order count bytes x are e =
    let row =
    row_taken {S = ℕ} IsWord (λ s. word_at order len) stays (word_bytes order)
    (λ s. value_taken 8 (number_of order) (word_bytes order) (2 ^ 64) (word_width order) len) count 0 bytes x are e in
    (row.taken, row.so_many, are_words-good x.0 0 row.good)

pub Reads-words : (len order : ℕ) (words : List ℕ) → IsTrue (are_words words)
    → Reads len (words_at len order (length words)) (words_in order words) words
Reads-words len order words all =
    Reads-row {S = ℕ} len IsWord (λ s. word_at order len) stays (word_bytes order)
    (λ s. Reads-value 8 (number_of order) (word_bytes order) (2 ^ 64) (word_width order) len) 0 words
    (good-are_words words 0 all)

-- ---- native ids

abbrev pub IsId : ℕ → ℕ → Type 0
IsId least id = (least ≤ id) × (id < 2 ^ 64)

abbrev pub least_then : ℕ → ℕ → ℕ
least_then least id = id + 1

id_taken : (len least : ℕ) (bytes : List ℕ) (x : ℕ × List ℕ) → AreBytes bytes → id_at len least bytes ≡ Ok x
    → Takes bytes (eight_bytes x.0) x.1 × IsId least x.0
id_taken len least bytes x are e =
    let went =
    judged_taken (leb least) (λ n at. BadContext at) (place_in_file len bytes) (number_at w64 len bytes) x e in
    let taken = number_taken w64 (2 ^ 64) width64 len bytes x are went.0 in
    (taken.0, (leb-true least x.0 went.1, taken.1))

pub Reads-id : (len least id : ℕ) → IsId least id → Reads len (id_at len least) (eight_bytes id) id
Reads-id len least id good =
    Reads-judged len (leb least) (λ n at. BadContext at) (place_in_file len) (number_at w64 len)
    (eight_bytes id) id (Reads-number w64 (2 ^ 64) width64 len id good.1) (le-leb least id good.0)

ids-good : (least : ℕ) (ids : List ℕ) → AreGood IsId least_then least ids
    → IsTrue (rises_from least ids) × IsTrue (are_words ids)
ids-good least [] good = (refl, refl)
ids-good least (id ∷ ids) good =
    let others = ids-good (id + 1) ids good.1 in
    (and_from (leb least id) (rises_from (id + 1) ids) (le-leb least id good.0.0) others.0, and_from (ltb id (2 ^ 64)) (are_words ids) (lt-ltb id (2 ^ 64) good.0.1) others.1)

pub good-ids : (least : ℕ) (ids : List ℕ) → IsTrue (rises_from least ids) → IsTrue (are_words ids)
    → AreGood IsId least_then least ids
good-ids least [] rise all = tt
good-ids least (id ∷ ids) rise all =
    let r = and_parts (leb least id) (rises_from (id + 1) ids) rise in
    let a = and_parts (ltb id (2 ^ 64)) (are_words ids) all in
    ((leb-true least id r.0, ltb-true id (2 ^ 64) a.0), good-ids (id + 1) ids r.1 a.1)

pub contexts_taken : (len count : ℕ) (bytes : List ℕ) (x : List ℕ × List ℕ) → AreBytes bytes
    → contexts_at len count bytes ≡ Ok x
    → Takes bytes (numbers x.0) x.1 × (length x.0 ≡ count) × IsTrue (rises_from 0 x.0) × IsTrue (are_words x.0)
contexts_taken len count bytes x are e =
    let row =
    row_taken {S = ℕ} IsId (id_at len) least_then eight_bytes (id_taken len) count 0 bytes x are e in
    let good = ids-good 0 x.0 row.good in
    (row.taken, row.so_many, good.0, good.1)

pub Reads-contexts : (len : ℕ) (ids : List ℕ) → IsTrue (rises_from 0 ids) → IsTrue (are_words ids)
    → Reads len (contexts_at len (length ids)) (numbers ids) ids
Reads-contexts len ids rise all =
    Reads-row {S = ℕ} len IsId (id_at len) least_then eight_bytes (Reads-id len) 0 ids
    (good-ids 0 ids rise all)

-- ---- segments

abbrev pub IsSegment : Left → Segment → Type 0
IsSegment left s =
    IsTrue (is_start left.0 s.start) × (0 < length s.words) × (length s.words ≤ left.1) × IsTrue (are_words s.words) × (length s.words < 2 ^ 64)

-- a start address is a word
start_below : (least start : ℕ) → IsTrue (is_start least start) → start < 2 ^ 64
start_below least start good =
    let below =
    ltb-true start MEMORY_END (and_parts (eqb (start % 8) 0 && leb least start) (ltb start MEMORY_END) good).1 in
    omega arith

segment_taken : (len order : ℕ) (left : Left) (bytes : List ℕ) (x : Segment × List ℕ) → AreBytes bytes
    → segment_at len order left bytes ≡ Ok x → Takes bytes (segment_bytes order x.0) x.1 × IsSegment left x.0
unfolding segment_at
segment_taken len order left bytes x are e =
    let a =
    bind_ok (start_at len left.0 bytes)
    (λ start. word_count_at len left.1 start.1 >>= λ count. words_at len order count.0 count.1 >>= λ words. Ok (record { start = start.0; words = words.0 }, words.1)) x e in
    let b =
    bind_ok (word_count_at len left.1 a.0.1)
    (λ count. words_at len order count.0 count.1 >>= λ words. Ok (record { start = a.0.0; words = words.0 }, words.1)) x a.2 in
    let c =
    bind_ok (words_at len order b.0.0 b.0.1)
    (λ words. Ok (record { start = a.0.0; words = words.0 }, words.1)) x b.2 in
    let start_judged =
    judged_taken (is_start left.0) (λ n at. SegmentOrder at) (place_in_file len bytes)
    (number_at w64 len bytes) a.0 a.1 in
    let start_is = number_taken w64 (2 ^ 64) width64 len bytes a.0 are start_judged.0 in
    let count_judged =
    judged_taken (λ n. ltb 0 n && leb n left.1) (λ n at. cond (eqb n 0) (SegmentOrder at) (TooLarge n))
    (place_in_file len a.0.1) (number_at w64 len a.0.1) b.0 b.1 in
    let count_is = number_taken w64 (2 ^ 64) width64 len a.0.1 b.0 start_is.0.rest_are_bytes count_judged.0 in
    let count_good = and_parts (ltb 0 b.0.0) (leb b.0.0 left.1) count_judged.1 in
    let words_are = words_taken len order b.0.0 b.0.1 c.0 count_is.0.rest_are_bytes c.1 in
    let front = Takes-then bytes (eight_bytes a.0.0) a.0.1 (eight_bytes b.0.0) b.0.1 start_is.0 count_is.0 in
    let whole =
    Takes-then bytes (eight_bytes a.0.0 ++ eight_bytes b.0.0) b.0.1 (words_in order c.0.0) c.0.1 front words_are.0 in
    let spelled : Takes bytes ((eight_bytes a.0.0 ++ eight_bytes (length c.0.0)) ++ words_in order c.0.0) c.0.1 =
    subst (λ (n : ℕ). Takes bytes ((eight_bytes a.0.0 ++ eight_bytes n) ++ words_in order c.0.0) c.0.1)
    (sym words_are.1) whole in
    let some : 0 < length c.0.0 = omega (arith, words_are.1, ltb-true 0 b.0.0 count_good.0) in
    let fit : length c.0.0 ≤ left.1 = omega (arith, words_are.1, leb-true b.0.0 left.1 count_good.1) in
    let below : length c.0.0 < 2 ^ 64 = omega (arith, words_are.1, count_is.1) in
    let made : Segment × List ℕ = (record { start = a.0.0; words = c.0.0 }, c.0.1) in
    subst (λ (y : Segment × List ℕ). Takes bytes (segment_bytes order y.0) y.1 × IsSegment left y.0) {x = made}
    (ok_is made x c.2) (spelled, (start_judged.1, some, fit, words_are.2, below))

pub Reads-segment : (len order : ℕ) (left : Left) (s : Segment) → IsSegment left s
    → Reads len (segment_at len order left) (segment_bytes order s) s
unfolding segment_at
Reads-segment len order left s good =
    let count : ℕ = length s.words in
    let start_is =
    Reads-judged len (is_start left.0) (λ n at. SegmentOrder at) (place_in_file len) (number_at w64 len)
    (eight_bytes s.start) s.start
    (Reads-number w64 (2 ^ 64) width64 len s.start (start_below left.0 s.start good.0)) good.0 in
    let count_is =
    Reads-judged len (λ n. ltb 0 n && leb n left.1) (λ n at. cond (eqb n 0) (SegmentOrder at) (TooLarge n))
    (place_in_file len) (number_at w64 len) (eight_bytes count) count
    (Reads-number w64 (2 ^ 64) width64 len count good.4)
    (and_from (ltb 0 count) (leb count left.1) (lt-ltb 0 count good.1) (le-leb count left.1 good.2)) in
    let made : ℕ → List ℕ → Segment = λ start words. record { start = start; words = words } in
    let words_are =
    Reads-map len (words_at len order count) (made s.start) (words_in order s.words) s.words
    (Reads-words len order s.words good.3) in
    let counted =
    Reads-then len (word_count_at len left.1)
    (λ (n : ℕ) bytes. words_at len order n bytes >>= λ words. Ok (made s.start words.0, words.1))
    (eight_bytes count) (words_in order s.words) count s count_is words_are in
    let whole =
    Reads-then len (start_at len left.0)
    (λ (start : ℕ) bytes. word_count_at len left.1 bytes >>= λ n. words_at len order n.0 n.1 >>= λ words. Ok (made start words.0, words.1))
    (eight_bytes s.start) (eight_bytes count ++ words_in order s.words) s.start s start_is counted in
    subst (λ (text : List ℕ). Reads len (segment_at len order left) text s)
    (sym (append_assoc (eight_bytes s.start) (eight_bytes count) (words_in order s.words))) whole

segments-good : (left : Left) (ss : List Segment) → AreGood IsSegment left_after left ss
    → IsTrue (rise_apart_from left.0 ss) × (total_words ss ≤ left.1)
segments-good left [] good = (refl, omega arith)
segments-good left (s ∷ ss) good =
    let others = segments-good (left_after left s) ss good.1 in
    let rise =
    and_from (is_start left.0 s.start && ltb 0 (length s.words) && are_words s.words)
    (rise_apart_from (end_of s.start (length s.words) + 1) ss)
    (and_from (is_start left.0 s.start && ltb 0 (length s.words)) (are_words s.words) (and_from (is_start left.0 s.start) (ltb 0 (length s.words)) good.0.0 (lt-ltb 0 (length s.words) good.0.1)) good.0.3) others.0 in
    (rise, omega (arith, sum_by-cons (λ (t : Segment). length t.words) s ss, others.1, good.0.2))

pub good-segments : (left : Left) (ss : List Segment) → left.1 < 2 ^ 64 → IsTrue (rise_apart_from left.0 ss)
    → total_words ss ≤ left.1 → AreGood IsSegment left_after left ss
good-segments left [] small rise fit = tt
good-segments left (s ∷ ss) small rise fit =
    let a =
    and_parts (is_start left.0 s.start && ltb 0 (length s.words) && are_words s.words)
    (rise_apart_from (end_of s.start (length s.words) + 1) ss) rise in
    let b = and_parts (is_start left.0 s.start && ltb 0 (length s.words)) (are_words s.words) a.0 in
    let c = and_parts (is_start left.0 s.start) (ltb 0 (length s.words)) b.0 in
    let total : length s.words + total_words ss ≤ left.1 =
    omega (arith, sum_by-cons (λ (t : Segment). length t.words) s ss) in
    ((c.0, ltb-true 0 (length s.words) c.1, omega (arith, total), b.1, omega (arith, total)), good-segments (left_after left s) ss (omega arith) a.1 (omega (arith, total)))

pub segments_taken : (len order count : ℕ) (bytes : List ℕ) (x : List Segment × List ℕ) → AreBytes bytes
    → segments_at len order count bytes ≡ Ok x
    → Takes bytes (flat_map (segment_bytes order) x.0) x.1 × (length x.0 ≡ count) × IsTrue (rise_apart_from FIRST_ADDRESS x.0) × (total_words x.0 ≤ MOST_SEGMENT_WORDS)
segments_taken len order count bytes x are e =
    let row =
    row_taken {S = Left} IsSegment (segment_at len order) left_after (segment_bytes order) (segment_taken len order) count
    (FIRST_ADDRESS, MOST_SEGMENT_WORDS) bytes x are e in
    let good = segments-good (FIRST_ADDRESS, MOST_SEGMENT_WORDS) x.0 row.good in
    (row.taken, row.so_many, good.0, good.1)

pub Reads-segments : (len order : ℕ) (ss : List Segment) → IsTrue (rise_apart_from FIRST_ADDRESS ss)
    → total_words ss ≤ MOST_SEGMENT_WORDS
    → Reads len (segments_at len order (length ss)) (flat_map (segment_bytes order) ss) ss
Reads-segments len order ss rise fit =
    Reads-row {S = Left} len IsSegment (segment_at len order) left_after (segment_bytes order) (Reads-segment len order)
    (FIRST_ADDRESS, MOST_SEGMENT_WORDS) ss
    (good-segments (FIRST_ADDRESS, MOST_SEGMENT_WORDS) ss (omega arith) rise fit)
