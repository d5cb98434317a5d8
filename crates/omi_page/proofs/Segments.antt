-- Segments of a core file whose bounds are read, and whose words are not.
use Rattle.std.proofs.Common.{◌≡◌, ℕ, zero, suc, ◌+◌, ◌-◌, ◌*◌, ◌<◌, ◌≤◌, true, false, ltb, List, [], ◌∷◌, ◌++◌, length, drop, Ok, Err, refl, sym, ap, subst, ◌∙◌, arith, inl, inr}
use Rattle.std.proofs.lemmas.Bool.{cases_lt, lt-ltb, le-ltb}
use Rattle.std.proofs.lemmas.List.{drop-drop, length-drop, map_push}
use Rattle.omi_corefile.specs.declared.segment.Segment.{Segment}
use Rattle.omi_corefile.specs.Refusals.{ReadRefusal, ReadStep, ◌>>=◌, short, word_at, row_at, words_at, start_at, word_count_at, segment_at, Left, left_after}
use Rattle.omi_corefile.proofs.Numbers.{bind_ok, bind_again, ok_is}
use Rattle.omi_corefile.proofs.Readings.{bind_failed}
use Rattle.omi_corefile.proofs.Rows.{with_front, goes_on, row_fails}
use Rattle.omi_corefile.specs.declared.fault.CoreError.TheVariants as core
use Rattle.omi_page.specs.declared.span.Span.{Span}
use Rattle.omi_page.specs.Spans.{word_there, words_there, segment_there, segments_there}
use Rattle.omi_page.specs.Bounds.{bounds_at, EndWithin}
use Rattle.omi_page.specs.Outcomes.{Fails}
use Rattle.omi_page.specs.declared.fault.PageError.{PageError}
use Rattle.omi_page.specs.declared.fault.PageError.TheVariants.{Fault, Elf, NoFile, Failed, OutOfMemory}

-- one number
number_there : (len order : ℕ) (bytes : List ℕ) (at : ℕ) → at + 8 ≤ length bytes
    → word_at order len (drop at bytes) ≡ Ok (word_there order bytes at, drop (at + 8) bytes)
number_there len order bytes at fits =
    let long : ltb (length (drop at bytes)) 8 ≡ false = le-ltb _ _ (omega (arith, length-drop at bytes)) in
    rw long (ap (λ (rest : List ℕ). Ok (word_there order bytes at, rest)) (drop-drop 8 at bytes))

number_short : (len order : ℕ) (bytes : List ℕ) (at : ℕ) → at ≤ length bytes → length bytes < at + 8
    → word_at order len (drop at bytes) ≡ Err (short len)
number_short len order bytes at within short_of =
    let below : ltb (length (drop at bytes)) 8 ≡ true = lt-ltb _ _ (omega (arith, length-drop at bytes)) in
    rw below refl

abbrev rest_of : ℕ → ℕ → ℕ → ℕ × List ℕ → ReadStep (List ℕ)
rest_of len order count first =
    row_at {S = ℕ} (λ s. word_at order len) (λ s word. s) count 0 first.1 >>= λ others. Ok (first.0 ∷ others.0, others.1)

-- the words of a file that has all of them
pub words_are : (len order : ℕ) (bytes : List ℕ) (at count : ℕ) → at + 8 * count ≤ length bytes
    → words_at len order count (drop at bytes) ≡ Ok (words_there order bytes at count, drop (at + 8 * count) bytes)
unfolding row_at words_there
words_are len order bytes at zero fits =
    let none : at ≡ at + 8 * 0 = omega arith in
    ap (λ (n : ℕ). Ok ([], drop n bytes)) none
words_are len order bytes at (suc count) fits =
    let end : at + 8 + 8 * count ≡ at + 8 * suc count = omega arith in
    bind_again (word_at order len (drop at bytes)) (rest_of len order count)
    (word_there order bytes at, drop (at + 8) bytes) (number_there len order bytes at (omega arith))
    ∙ bind_again (words_at len order count (drop (at + 8) bytes))
    (λ others. Ok (word_there order bytes at ∷ others.0, others.1))
    (words_there order bytes (at + 8) count, drop (at + 8 + 8 * count) bytes)
    (words_are len order bytes (at + 8) count (omega arith))
    ∙ ap (λ (n : ℕ). Ok (word_there order bytes at ∷ words_there order bytes (at + 8) count, drop n bytes)) end

-- a file that ends inside the words
pub words_short : (len order : ℕ) (bytes : List ℕ) (at count : ℕ) → at ≤ length bytes
    → length bytes < at + 8 * count → words_at len order count (drop at bytes) ≡ Err (short len)
unfolding row_at
words_short len order bytes at zero within short_of = absurd (omega arith)
words_short len order bytes at (suc count) within short_of =
    elim (cases_lt (length bytes) (at + 8)) [
      | inl here ↦ bind_failed (word_at order len (drop at bytes)) (rest_of len order count) (short len) (number_short len order bytes at within here)
      | inr later ↦
          bind_again (word_at order len (drop at bytes)) (rest_of len order count)
          (word_there order bytes at, drop (at + 8) bytes) (number_there len order bytes at later)
          ∙ bind_failed (words_at len order count (drop (at + 8) bytes))
          (λ others. Ok (word_there order bytes at ∷ others.0, others.1)) (short len)
          (words_short len order bytes (at + 8) count later (omega arith))
    ]

-- ---- segments

-- the bounds of a segment were read one after the other
pub record Split (len : ℕ) (left : Left) (bytes : List ℕ) (start count : ℕ) (rest : List ℕ) : Type 0 where
  pub middle : List ℕ
  pub starts : start_at len left.0 bytes ≡ Ok (start, middle)
  pub counts : word_count_at len left.1 middle ≡ Ok (count, rest)

split : (len : ℕ) (left : Left) (bytes : List ℕ) (start count : ℕ) (rest : List ℕ)
    → bounds_at len left bytes ≡ Ok ((start, count), rest) → Split len left bytes start count rest
split len left bytes start count rest e =
    let a =
    bind_ok (start_at len left.0 bytes)
    (λ start. word_count_at len left.1 start.1 >>= λ count. Ok ((start.0, count.0), count.1))
    ((start, count), rest) e in
    let b =
    bind_ok (word_count_at len left.1 a.0.1) (λ count. Ok ((a.0.0, count.0), count.1))
    ((start, count), rest) a.2 in
    let made : (ℕ × ℕ) × List ℕ = ((a.0.0, b.0.0), b.0.1) in
    let same : made ≡ ((start, count), rest) = ok_is made ((start, count), rest) b.2 in
    record {
      middle = a.0.1;
      starts = a.1 ∙ ap (λ (y : (ℕ × ℕ) × List ℕ). Ok (y.0.0, a.0.1)) same;
      counts = b.1 ∙ ap (λ (y : (ℕ × ℕ) × List ℕ). Ok (y.0.1, y.1)) same;
    }

-- the words follow the bounds
abbrev words_then : ℕ → ℕ → ℕ → ℕ → List ℕ → ReadStep Segment
words_then len order start count rest =
    words_at len order count rest >>= λ words. Ok (record { start = start; words = words.0 }, words.1)

then_words : (len order : ℕ) (left : Left) (bytes : List ℕ) (start count : ℕ) (rest : List ℕ)
    → bounds_at len left bytes ≡ Ok ((start, count), rest)
    → segment_at len order left bytes ≡ words_then len order start count rest
unfolding segment_at
then_words len order left bytes start count rest e =
    let parts = split len left bytes start count rest e in
    bind_again (start_at len left.0 bytes)
    (λ s. word_count_at len left.1 s.1 >>= λ c. words_then len order s.0 c.0 c.1) (start, parts.middle) parts.starts
    ∙ bind_again (word_count_at len left.1 parts.middle) (λ c. words_then len order start c.0 c.1)
    (count, rest) parts.counts

-- a segment whose words are all there
pub segment_whole : (len order : ℕ) (left : Left) (bytes : List ℕ) (at first start count : ℕ) → first ≡ at + 16
    → first + 8 * count ≤ length bytes
    → bounds_at len left (drop at bytes) ≡ Ok ((start, count), drop (at + 16) bytes)
    → segment_at len order left (drop at bytes) ≡ Ok (record { start = start; words = words_there order bytes first count }, drop (first + 8 * count) bytes)
segment_whole len order left bytes at first start count is fits e =
    then_words len order left (drop at bytes) start count (drop (at + 16) bytes) e
    ∙ ap (λ (n : ℕ). words_then len order start count (drop n bytes)) (sym is)
    ∙ bind_again (words_at len order count (drop first bytes))
    (λ words. Ok (record { start = start; words = words.0 }, words.1))
    (words_there order bytes first count, drop (first + 8 * count) bytes) (words_are len order bytes first count fits)

-- a segment whose words are not all there
pub segment_short : (len order : ℕ) (left : Left) (bytes : List ℕ) (at start count : ℕ) → at + 16 ≤ length bytes
    → length bytes < at + 16 + 8 * count
    → bounds_at len left (drop at bytes) ≡ Ok ((start, count), drop (at + 16) bytes) → segment_at len order left (drop at bytes) ≡ Err (short len)
segment_short len order left bytes at start count within short_of e =
    then_words len order left (drop at bytes) start count (drop (at + 16) bytes) e
    ∙ bind_failed (words_at len order count (drop (at + 16) bytes))
    (λ words. Ok (record { start = start; words = words.0 }, words.1)) (short len)
    (words_short len order bytes (at + 16) count within short_of)

-- a fault of the bounds is one of the segment
failed_one : {A B : Type 0} (read : ReadStep ℕ) (f : ℕ × List ℕ → A) (g : ℕ × List ℕ → ReadStep B) (r : ReadRefusal)
    → (read >>= λ c. Ok (f c)) ≡ Err r → (read >>= g) ≡ Err r
failed_one (Ok c) f g r e = absurd cc
failed_one (Err d) f g r e = let same : d ≡ r = cc in ap (λ (x : ReadRefusal). Err x) same

failed_two : {A B : Type 0} (read : ReadStep ℕ) (next : ℕ × List ℕ → ReadStep ℕ) (f : ℕ × List ℕ → ℕ × List ℕ → A) (g : ℕ × List ℕ → ℕ × List ℕ → ReadStep B) (r : ReadRefusal)
    → (read >>= λ s. next s >>= λ c. Ok (f s c)) ≡ Err r → (read >>= λ s. next s >>= g s) ≡ Err r
failed_two (Ok s) next f g r e = failed_one (next s) (f s) (g s) r e
failed_two (Err d) next f g r e = let same : d ≡ r = cc in ap (λ (x : ReadRefusal). Err x) same

pub segment_fault : (error : PageError) (len order : ℕ) (left : Left) (bytes : List ℕ)
    → Fails error (bounds_at len left bytes) → Fails error (segment_at len order left bytes)
unfolding segment_at
segment_fault (Fault at why) len order left bytes e =
    failed_two (start_at len left.0 bytes) (λ s. word_count_at len left.1 s.1) (λ s c. ((s.0, c.0), c.1))
    (λ s c. words_then len order s.0 c.0 c.1) (at, why) e
segment_fault (Elf at why) len order left bytes e = e
segment_fault NoFile len order left bytes e = e
segment_fault Failed len order left bytes e = tt
segment_fault OutOfMemory len order left bytes e = tt

-- ---- rows of segments

pub length-words_there : (order : ℕ) (bytes : List ℕ) (at count : ℕ) → length (words_there order bytes at count) ≡ count
unfolding words_there
length-words_there order bytes at zero = refl
length-words_there order bytes at (suc count) = ap suc (length-words_there order bytes (at + 8) count)

-- what a segment leaves
pub left_then : (order : ℕ) (bytes : List ℕ) (s : Span) (least room : ℕ)
    → left_after (least, room) (segment_there order bytes s) ≡ (s.start + 8 * s.count + 1, room - s.count)
left_then order bytes s least room =
    ap (λ (n : ℕ). (s.start + 8 * n + 1, room - n)) (length-words_there order bytes s.place s.count)

-- one more segment was read
pub segment_more : (order : ℕ) (bytes : List ℕ) (spans : List Span) (s : Span) (len count counter least room at : ℕ) (total : ReadStep (List Segment))
    → counter < count
    → segment_at len order (least, room) (drop at bytes) ≡ Ok (segment_there order bytes s, drop (s.place + 8 * s.count) bytes)
    → with_front (segments_there order bytes spans) (row_at (segment_at len order) left_after (count - counter) (least, room) (drop at bytes)) ≡ total
    → with_front (segments_there order bytes (spans ++ s ∷ [])) (row_at (segment_at len order) left_after (count - (counter + 1)) (s.start + 8 * s.count + 1, room - s.count) (drop (s.place + 8 * s.count) bytes)) ≡ total
segment_more order bytes spans s len count counter least room at total below read so_far =
    ap
    (λ (front : List Segment). with_front front (row_at (segment_at len order) left_after (count - (counter + 1)) (s.start + 8 * s.count + 1, room - s.count) (drop (s.place + 8 * s.count) bytes)))
    (map_push (segment_there order bytes) spans s)
    ∙ ap
    (λ (left : Left). with_front (segments_there order bytes spans ++ segment_there order bytes s ∷ []) (row_at (segment_at len order) left_after (count - (counter + 1)) left (drop (s.place + 8 * s.count) bytes)))
    (sym (left_then order bytes s least room))
    ∙ goes_on (segment_at len order) left_after (segments_there order bytes spans) count counter (least, room)
    (drop at bytes) (segment_there order bytes s) (drop (s.place + 8 * s.count) bytes) total below read so_far

-- a segment has a fault, or what may stand in place of any answer
pub segments_fault : (error : PageError) (front : List Segment) (len order count counter : ℕ) (left : Left) (bytes : List ℕ) (total : ReadStep (List Segment))
    → counter < count
    → Fails error (segment_at len order left bytes) → with_front front (row_at (segment_at len order) left_after (count - counter) left bytes) ≡ total → Fails error total
segments_fault (Fault at why) front len order count counter left bytes total below e so_far =
    row_fails (core.Fault at why)
    (segment_at len order) left_after front count counter left bytes total below e so_far
segments_fault (Elf at why) front len order count counter left bytes total below e so_far = e
segments_fault NoFile front len order count counter left bytes total below e so_far = e
segments_fault Failed front len order count counter left bytes total below e so_far = tt
segments_fault OutOfMemory front len order count counter left bytes total below e so_far = tt

-- the words of one span more end within the file
pub ends_push : (len : ℕ) (spans : List Span) (x : Span) → EndWithin len spans → x.place + 8 * x.count ≤ len
    → EndWithin len (spans ++ x ∷ [])
ends_push len [] x ends fits zero s is =
    let same : x ≡ s = cc in subst (λ (y : Span). y.place + 8 * y.count ≤ len) same fits
ends_push len [] x ends fits (suc k) s is = absurd cc
ends_push len (y ∷ spans) x ends fits zero s is = ends 0 s is
ends_push len (y ∷ spans) x ends fits (suc k) s is = ends_push len spans x (λ j. ends (suc j)) fits k s is
