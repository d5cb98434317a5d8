-- A file that was read is the spelling of what it holds, and what was spelled is read again.
use Rattle.std.proofs.Common.{◌≡◌, ℕ, ◌+◌, ◌-◌, ◌^◌, ◌<◌, ◌≤◌, true, false, take, length-append, cond, eqb, leb, List, [], ◌∷◌, ◌++◌, length, Result, Ok, Err, refl, sym, ap, subst, ◌∙◌, arith, ◌⊎◌, inl, inr}
use Rattle.std.specs.Prelude.{IsTrue, ◌&&◌, codes}
use Rattle.std.specs.List.{flat_map}
use Rattle.std.specs.Int.{w16, w32, to_le_bytes}
use Rattle.std.proofs.Math.Bool.{Bool-set}
use Rattle.std.proofs.Math.Seq.{take-append-add}
use Rattle.std.proofs.lemmas.Bool.{cases_lt, lt-ltb, ne_eqb, and_from, eqb-true, leb-true, le-leb}
use Rattle.std.proofs.lemmas.List.{append-nil, nil_from_length, length-take-le}
use Rattle.omi_corefile.specs.declared.segment.Segment.{Segment}
use Rattle.omi_corefile.specs.declared.core_image.CoreImage.{CoreImage}
use Rattle.omi_corefile.specs.declared.fault.CoreFault.TheVariants.{Version, Order, SegmentOrder, BadContext, Short, Trailing}
use Rattle.omi_corefile.specs.declared.fault.CoreError.{CoreError}
use Rattle.omi_corefile.specs.declared.fault.CoreError.TheVariants.{Fault, OutOfMemory}
use Rattle.omi_corefile.specs.Outcomes.{Fails, UnlessMemory, IsCore, IsRefused}
use Rattle.omi_corefile.specs.ByteOrder.{is_order}
use Rattle.omi_corefile.specs.Limits.{rises_from, are_words, rise_apart_from, total_words, are_contexts, are_segments, within_limits}
use Rattle.omi_word.specs.declared.limits.TheConstants.{FIRST_ADDRESS}
use Rattle.omi_corefile.specs.declared.limits.TheConstants.{MOST_CONTEXTS, MOST_SEGMENTS, MOST_SEGMENT_WORDS}
use Rattle.omi_corefile.specs.Spelling.{numbers, header, segment_bytes, spelling_of, spelling, Core}
use Rattle.omi_corefile.specs.Refusals.{ReadRefusal, ReadStep, ◌>>=◌, AreBytes, number_at, byte_at, magic_at, version_at, order_at, context_count_at, segment_count_at, contexts_at, segments_at, Header, header_at, place_in_file, short, trailing, Parts, parts_at, reading, CoreRefused}
use Rattle.omi_corefile.proofs.Bounds.{Bounds, bounds}
use Rattle.omi_corefile.proofs.Numbers.{bind_ok, bind_again, passed, ok_is, Takes, Takes-then, width16, width32, number_taken, byte_taken, judged_taken, magic_taken, magic_again}
use Rattle.omi_corefile.proofs.Readings.{Reads, Reads-then, Reads-map, Reads-number, Reads-byte, Reads-judged, bind_failed}
use Rattle.omi_corefile.proofs.RowLaws.{contexts_taken, Reads-contexts, segments_taken, Reads-segments}

-- ---- the header

-- what follows each part of it: the format's name, its version, the order, and the two counts
abbrev pub behind_counts : ℕ → ℕ → ℕ × List ℕ → ReadStep Header
behind_counts order contexts segments =
    Ok (record { order = order; contexts = contexts; segments = segments.0 }, segments.1)

abbrev pub behind_contexts : ℕ → ℕ → ℕ → List ℕ → ReadStep Header
behind_contexts len order contexts bytes =
    segment_count_at len bytes >>= behind_counts order contexts

abbrev pub behind_order : ℕ → ℕ → List ℕ → ReadStep Header
behind_order len order bytes =
    context_count_at len bytes >>= λ contexts. behind_contexts len order contexts.0 contexts.1

abbrev pub behind_version : ℕ → List ℕ → ReadStep Header
behind_version len bytes = order_at len bytes >>= λ order. behind_order len order.0 order.1

abbrev pub behind_name : ℕ → List ℕ → ReadStep Header
behind_name len bytes = version_at len bytes >>= λ version. behind_version len version.1

-- what is read of a header
pub record TakesHeader (bytes : List ℕ) (counts : Header) (rest : List ℕ) : Type 0 where
  pub taken : Takes bytes (header counts.order counts.contexts counts.segments) rest
  pub order_is : is_order counts.order ≡ true
  pub few_contexts : counts.contexts ≤ MOST_CONTEXTS
  pub few_segments : counts.segments ≤ MOST_SEGMENTS

pub header_taken : (len : ℕ) (bytes : List ℕ) (x : Header × List ℕ) → AreBytes bytes
    → header_at len bytes ≡ Ok x → TakesHeader bytes x.0 x.1
unfolding header_at
header_taken len bytes x are e =
    let a = bind_ok (magic_at len bytes) (behind_name len) x e in
    let b = bind_ok (version_at len a.0) (λ version. behind_version len version.1) x a.2 in
    let c = bind_ok (order_at len b.0.1) (λ order. behind_order len order.0 order.1) x b.2 in
    let d = bind_ok (context_count_at len c.0.1) (λ contexts. behind_contexts len c.0.0 contexts.0 contexts.1) x c.2 in
    let f = bind_ok (segment_count_at len d.0.1) (behind_counts c.0.0 d.0.0) x d.2 in
    let magic_is = magic_taken len bytes a.0 are a.1 in
    let version_judged =
    judged_taken (λ v. eqb v 1) (λ v at. Version v) (place_in_file len a.0) (byte_at len a.0) b.0 b.1 in
    let version_is = byte_taken len a.0 b.0 magic_is.rest_are_bytes version_judged.0 in
    let order_judged =
    judged_taken is_order (λ v at. Order v) (place_in_file len b.0.1) (byte_at len b.0.1) c.0 c.1 in
    let order_was = byte_taken len b.0.1 c.0 version_is.rest_are_bytes order_judged.0 in
    let contexts_judged =
    judged_taken (λ n. leb n MOST_CONTEXTS) (λ n at. BadContext at) (place_in_file len c.0.1)
    (number_at w16 len c.0.1) d.0 d.1 in
    let contexts_are =
    number_taken w16 (2 ^ 16) width16 len c.0.1 d.0 order_was.rest_are_bytes contexts_judged.0 in
    let segments_judged =
    judged_taken (λ n. leb n MOST_SEGMENTS) (λ n at. SegmentOrder at) (place_in_file len d.0.1)
    (number_at w32 len d.0.1) f.0 f.1 in
    let segments_are =
    number_taken w32 (2 ^ 32) width32 len d.0.1 f.0 contexts_are.0.rest_are_bytes segments_judged.0 in
    let one_version : Takes a.0 (1 ∷ []) b.0.1 =
    subst (λ (v : ℕ). Takes a.0 (v ∷ []) b.0.1) (eqb-true b.0.0 1 version_judged.1) version_is in
    let name : List ℕ = codes "OMPDCOR1" in
    let upto_version = Takes-then bytes name a.0 (1 ∷ []) b.0.1 magic_is one_version in
    let upto_order = Takes-then bytes (name ++ 1 ∷ []) b.0.1 (c.0.0 ∷ []) c.0.1 upto_version order_was in
    let upto_contexts =
    Takes-then bytes (name ++ 1 ∷ c.0.0 ∷ []) c.0.1 (to_le_bytes w16 d.0.0) d.0.1 upto_order contexts_are.0 in
    let whole =
    Takes-then bytes (name ++ 1 ∷ c.0.0 ∷ to_le_bytes w16 d.0.0) d.0.1
    (to_le_bytes w32 f.0.0) f.0.1 upto_contexts segments_are.0 in
    let made : Header × List ℕ = (record { order = c.0.0; contexts = d.0.0; segments = f.0.0 }, f.0.1) in
    subst (λ (y : Header × List ℕ). TakesHeader bytes y.0 y.1) {x = made} (ok_is made x f.2) (record {
      taken = whole;
      order_is = order_judged.1;
      few_contexts = leb-true d.0.0 MOST_CONTEXTS contexts_judged.1;
      few_segments = leb-true f.0.0 MOST_SEGMENTS segments_judged.1;
    })

-- fewer bytes than the name of the format has
magic_short : (len : ℕ) (bytes : List ℕ) → length bytes < 8 → magic_at len bytes ≡ Err (short len)
unfolding magic_at
magic_short len bytes below = let too_short = lt-ltb (length bytes) 8 below in rw too_short refl

-- the number of contexts is read
pub Reads-context_count : (len contexts : ℕ) → contexts ≤ MOST_CONTEXTS
    → Reads len (context_count_at len) (to_le_bytes w16 contexts) contexts
Reads-context_count len contexts few =
    Reads-judged len (λ n. leb n MOST_CONTEXTS) (λ n at. BadContext at) (place_in_file len)
    (number_at w16 len) (to_le_bytes w16 contexts) contexts
    (Reads-number w16 (2 ^ 16) width16 len contexts (omega (arith, few)))
    (le-leb contexts MOST_CONTEXTS few)

-- the order is read
pub Reads-order : (len order : ℕ) → is_order order ≡ true → Reads len (order_at len) (order ∷ []) order
Reads-order len order known =
    Reads-judged len is_order (λ b at. Order b) (place_in_file len) (byte_at len) (order ∷ []) order
    (Reads-byte len order) known

pub Reads-header : (len order contexts segments : ℕ) → is_order order ≡ true → contexts ≤ MOST_CONTEXTS
    → segments ≤ MOST_SEGMENTS
    → Reads len (header_at len) (header order contexts segments)
    (record { order = order; contexts = contexts; segments = segments })
unfolding header_at
Reads-header len order contexts segments known few_contexts few_segments =
    let made : Header = record { order = order; contexts = contexts; segments = segments } in
    let name : List ℕ = codes "OMPDCOR1" in
    let counts : List ℕ = to_le_bytes w16 contexts ++ to_le_bytes w32 segments in
    let text : List ℕ = 1 ∷ order ∷ counts in
    let version_is =
    Reads-judged len (λ v. eqb v 1) (λ v at. Version v) (place_in_file len) (byte_at len) (1 ∷ []) 1
    (Reads-byte len 1) refl in
    let order_is = Reads-order len order known in
    let contexts_are = Reads-context_count len contexts few_contexts in
    let segments_number = Reads-number w32 (2 ^ 32) width32 len segments (omega arith) in
    let segments_are =
    Reads-judged len (λ n. leb n MOST_SEGMENTS) (λ n at. SegmentOrder at) (place_in_file len)
    (number_at w32 len) (to_le_bytes w32 segments) segments
    segments_number (le-leb segments MOST_SEGMENTS few_segments) in
    let from_segments =
    Reads-map len (segment_count_at len) (λ (s : ℕ). record { order = order; contexts = contexts; segments = s })
    (to_le_bytes w32 segments) segments segments_are in
    let from_contexts =
    Reads-then len (context_count_at len) (λ (c : ℕ) bytes. behind_contexts len order c bytes)
    (to_le_bytes w16 contexts) (to_le_bytes w32 segments)
    contexts made contexts_are from_segments in
    let from_order =
    Reads-then len (order_at len) (λ (o : ℕ) bytes. behind_order len o bytes)
    (order ∷ []) counts order made order_is from_contexts in
    let from_version : Reads len (behind_name len) text made =
    Reads-then len (version_at len) (λ (v : ℕ) bytes. behind_version len bytes) (1 ∷ [])
    (order ∷ counts) 1 made version_is from_order in
    record {
      whole = λ rest.
          bind_again (magic_at len (name ++ (text ++ rest))) (behind_name len) (text ++ rest)
          (magic_again len (text ++ rest))
          ∙ from_version.whole rest;
      cut = λ n below. elim (cases_lt n 8) [
        | inl inside ↦
            let cut : List ℕ = take n (name ++ text) in
            let long = length-take-le n (name ++ text) (omega (arith, below)) in
            bind_failed (magic_at len cut) (behind_name len) (short len)
            (magic_short len cut (omega (arith, long, inside)))
        | inr past ↦
            let m : ℕ = n - 8 in
            let split : n ≡ 8 + m = omega arith in
            let fronts : take n (name ++ text) ≡ name ++ take m text =
            ap (λ (k : ℕ). take k (name ++ text)) split ∙ take-append-add name text m in
            ap (header_at len) fronts
            ∙ bind_again (magic_at len (name ++ take m text)) (behind_name len) (take m text)
            (magic_again len (take m text))
            ∙ from_version.cut m (omega (arith, below))
      ];
    }

-- ---- the whole file

-- what follows a header, the contexts, and the segments
abbrev pub after_segments : Header → List ℕ → List Segment × List ℕ → ReadStep Parts
after_segments counts contexts segments =
    Ok (record { order = counts.order; contexts = contexts; segments = segments.0 }, segments.1)

abbrev pub after_contexts : ℕ → Header → List ℕ × List ℕ → ReadStep Parts
after_contexts len counts contexts =
    segments_at len counts.order counts.segments contexts.1 >>= after_segments counts contexts.0

abbrev pub after_header : ℕ → Header × List ℕ → ReadStep Parts
after_header len counts =
    contexts_at len counts.0.contexts counts.1 >>= after_contexts len counts.0

-- nothing follows the last segment
abbrev pub ended : ℕ → Parts × List ℕ → Result Parts ReadRefusal
ended len parts = cond (eqb (length parts.1) 0) (Ok parts.0) (Err (trailing len parts.1))

-- these parts keep the limits, and are spelled so
abbrev pub IsFile : List ℕ → Parts → Type 0
IsFile bytes p =
    IsTrue (within_limits p.order p.contexts p.segments) × (bytes ≡ spelling_of p.order p.contexts p.segments)

-- the parts keep the limits, and their spelling was taken
abbrev TakesParts : List ℕ → Parts × List ℕ → Type 0
TakesParts bytes x =
    IsTrue (within_limits x.0.order x.0.contexts x.0.segments) × Takes bytes (spelling_of x.0.order x.0.contexts x.0.segments) x.1

within : (order : ℕ) (contexts : List ℕ) (segments : List Segment) → Bounds order contexts segments
    → IsTrue (within_limits order contexts segments)
within order contexts segments b =
    and_from (is_order order && are_contexts contexts) (are_segments segments)
    (and_from (is_order order) (are_contexts contexts) b.order_is contexts_are) segments_are
  where
    contexts_are : are_contexts contexts ≡ true
    contexts_are =
        and_from (leb (length contexts) MOST_CONTEXTS && rises_from 0 contexts) (are_words contexts)
        (and_from (leb (length contexts) MOST_CONTEXTS) (rises_from 0 contexts)
        (le-leb (length contexts) MOST_CONTEXTS b.few_contexts) b.contexts_rise) b.contexts_are_words

    segments_are : are_segments segments ≡ true
    segments_are =
        and_from (leb (length segments) MOST_SEGMENTS && rise_apart_from FIRST_ADDRESS segments)
        (leb (total_words segments) MOST_SEGMENT_WORDS)
        (and_from (leb (length segments) MOST_SEGMENTS) (rise_apart_from FIRST_ADDRESS segments)
        (le-leb (length segments) MOST_SEGMENTS b.few_segments) b.segments_rise)
        (le-leb (total_words segments) MOST_SEGMENT_WORDS b.few_words)

-- the same contexts and segments keep the limits in either order
pub within_again : (c : CoreImage) (order : ℕ) → order ≤ 1
    → IsTrue (within_limits order c.contexts c.segments)
within_again c order known =
    let b = bounds c in
    within order c.contexts c.segments (record {
      order_is = le-leb order 1 known;
      few_contexts = b.few_contexts;
      contexts_rise = b.contexts_rise;
      contexts_are_words = b.contexts_are_words;
      few_segments = b.few_segments;
      segments_rise = b.segments_rise;
      few_words = b.few_words;
    })

parts_taken : (len : ℕ) (bytes : List ℕ) (x : Parts × List ℕ) → AreBytes bytes → parts_at len bytes ≡ Ok x
    → TakesParts bytes x
unfolding parts_at
parts_taken len bytes x are e =
    let a = bind_ok (header_at len bytes) (after_header len) x e in
    let b = bind_ok (contexts_at len a.0.0.contexts a.0.1) (after_contexts len a.0.0) x a.2 in
    let c = bind_ok (segments_at len a.0.0.order a.0.0.segments b.0.1) (after_segments a.0.0 b.0.0) x b.2 in
    let header_is = header_taken len bytes a.0 are a.1 in
    let contexts_are = contexts_taken len a.0.0.contexts a.0.1 b.0 header_is.taken.rest_are_bytes b.1 in
    let segments_are = segments_taken len a.0.0.order a.0.0.segments b.0.1 c.0 contexts_are.0.rest_are_bytes c.1 in
    let header_bytes : List ℕ = header a.0.0.order a.0.0.contexts a.0.0.segments in
    let front = Takes-then bytes header_bytes a.0.1 (numbers b.0.0) b.0.1 header_is.taken contexts_are.0 in
    let text : List ℕ = (header_bytes ++ numbers b.0.0) ++ flat_map (segment_bytes a.0.0.order) c.0.0 in
    let whole : Takes bytes text c.0.1 =
    Takes-then bytes (header_bytes ++ numbers b.0.0) b.0.1
    (flat_map (segment_bytes a.0.0.order) c.0.0) c.0.1 front segments_are.0 in
    let with_counts : ℕ → ℕ → List ℕ =
    λ n m. (header a.0.0.order n m ++ numbers b.0.0) ++ flat_map (segment_bytes a.0.0.order) c.0.0 in
    let counted : text ≡ spelling_of a.0.0.order b.0.0 c.0.0 =
    ap (λ (n : ℕ). with_counts n a.0.0.segments) (sym contexts_are.1)
    ∙ ap (with_counts (length b.0.0)) (sym segments_are.1) in
    let keeps = within a.0.0.order b.0.0 c.0.0 (record {
      order_is = header_is.order_is;
      few_contexts = omega (arith, contexts_are.1, header_is.few_contexts);
      contexts_rise = contexts_are.2;
      contexts_are_words = contexts_are.3;
      few_segments = omega (arith, segments_are.1, header_is.few_segments);
      segments_rise = segments_are.2;
      few_words = segments_are.3;
    }) in
    let made : Parts × List ℕ = (record { order = a.0.0.order; contexts = b.0.0; segments = c.0.0 }, c.0.1) in
    subst (TakesParts bytes) {x = made} (ok_is made x c.2)
    (keeps, subst (λ (t : List ℕ). Takes bytes t c.0.1) counted whole)

pub reading_taken : (bytes : List ℕ) (p : Parts) → AreBytes bytes → reading bytes ≡ Ok p → IsFile bytes p
unfolding reading
reading_taken bytes p are e =
    let len : ℕ = length bytes in
    let a = bind_ok (parts_at len bytes) (ended len) p e in
    let no_more = passed (eqb (length a.0.1) 0) (trailing len a.0.1) a.0.0 p a.2 in
    let file = parts_taken len bytes a.0 are a.1 in
    let nothing : a.0.1 ≡ [] = nil_from_length a.0.1 (eqb-true (length a.0.1) 0 no_more.0) in
    let text : List ℕ = spelling_of a.0.0.order a.0.0.contexts a.0.0.segments in
    let spelled : bytes ≡ text =
    file.1.parts ∙ ap (λ (rest : List ℕ). text ++ rest) nothing ∙ append-nil text in
    subst (IsFile bytes) no_more.1 (file.0, spelled)

Reads-parts : (len order : ℕ) (contexts : List ℕ) (segments : List Segment) → Bounds order contexts segments
    → Reads len (parts_at len) (spelling_of order contexts segments)
    (record { order = order; contexts = contexts; segments = segments })
unfolding parts_at
Reads-parts len order contexts segments b =
    let counts : Header = record { order = order; contexts = length contexts; segments = length segments } in
    let parts : Parts = record { order = order; contexts = contexts; segments = segments } in
    let header_is =
    Reads-header len order (length contexts) (length segments) b.order_is b.few_contexts b.few_segments in
    let contexts_are = Reads-contexts len contexts b.contexts_rise b.contexts_are_words in
    let segments_are = Reads-segments len order segments b.segments_rise b.few_words in
    let from_segments =
    Reads-map len (segments_at len order (length segments))
    (λ (s : List Segment). record { order = order; contexts = contexts; segments = s })
    (flat_map (segment_bytes order) segments) segments segments_are in
    let from_contexts =
    Reads-then len (contexts_at len (length contexts))
    (λ (c : List ℕ) bytes. after_contexts len counts (c, bytes))
    (numbers contexts) (flat_map (segment_bytes order) segments) contexts parts contexts_are from_segments in
    Reads-then len (header_at len) (λ (h : Header) bytes. after_header len (h, bytes))
    (header order (length contexts) (length segments))
    (numbers contexts ++ flat_map (segment_bytes order) segments) counts parts header_is from_contexts

-- what a core holds, without its limits
abbrev pub parts_of : CoreImage → Parts
parts_of c = record { order = c.order; contexts = c.contexts; segments = c.segments }

pub Reads-core : (len : ℕ) (c : CoreImage) → Reads len (parts_at len) (spelling c) (parts_of c)
Reads-core len c = Reads-parts len c.order c.contexts c.segments (bounds c)

pub reading_again : (c : CoreImage) → reading (spelling c) ≡ Ok (parts_of c)
unfolding reading
reading_again c =
    let text : List ℕ = spelling c in
    let len : ℕ = length text in
    bind_again (parts_at len text) (ended len) (parts_of c, [])
    (ap (parts_at len) (sym (append-nil text)) ∙ (Reads-core len c).whole [])

-- a file that ends inside a core
pub cut_short : (c : CoreImage) (n : ℕ) → n < length (spelling c)
    → CoreRefused (take n (spelling c)) n (Short n)
unfolding reading
cut_short c n below =
    let bytes : List ℕ = take n (spelling c) in
    let so_long : length bytes ≡ n = length-take-le n (spelling c) (omega (arith, below)) in
    let failed : reading bytes ≡ Err (length bytes, Short (length bytes)) =
    bind_failed (parts_at (length bytes) bytes) (ended (length bytes)) (short (length bytes))
    ((Reads-core (length bytes) c).cut n below) in
    subst (λ (k : ℕ). reading bytes ≡ Err (k, Short k)) so_long failed

-- bytes after a core
pub too_many : (c : CoreImage) (more : List ℕ) → 0 < length more
    → CoreRefused (spelling c ++ more) (length (spelling c)) (Trailing (length (spelling c)))
unfolding reading
too_many c more some =
    let text : List ℕ = spelling c in
    let len : ℕ = length (text ++ more) in
    let left : eqb (length more) 0 ≡ false = ne_eqb (length more) 0 (λ none. omega (arith, some, none)) in
    let at : place_in_file len more ≡ length text = omega (arith, length-append text more) in
    let failed : reading (text ++ more) ≡ Err (trailing len more) =
    bind_again (parts_at len (text ++ more)) (ended len) (parts_of c, more) ((Reads-core len c).whole more)
    ∙ rw left refl in
    subst (λ (k : ℕ). reading (text ++ more) ≡ Err (k, Trailing k)) at failed

-- ---- cores

-- the core of parts that keep the limits
abbrev pub core_with : (p : Parts) → IsTrue (within_limits p.order p.contexts p.segments) → CoreImage
core_with p keeps = record { order = p.order; contexts = p.contexts; segments = p.segments; limits = keeps }

pub core_is : (c : CoreImage) (p : Parts) (keeps : IsTrue (within_limits p.order p.contexts p.segments))
    → parts_of c ≡ p → c ≡ core_with p keeps
core_is c p keeps e =
    let Same : Parts → Type 0 =
    λ q. (k : IsTrue (within_limits q.order q.contexts q.segments)) → c ≡ core_with q k in
    let here : Same (parts_of c) =
    λ k. ap (core_with (parts_of c)) (Bool-set (within_limits c.order c.contexts c.segments) true c.limits k) in
    subst Same e here keeps

pub core_unique : (bytes : List ℕ) (c d : CoreImage) → Core bytes c → Core bytes d → c ≡ d
core_unique bytes c d is_c is_d =
    let read_c : reading bytes ≡ Ok (parts_of c) = ap reading is_c ∙ reading_again c in
    let read_d : reading bytes ≡ Ok (parts_of d) = ap reading is_d ∙ reading_again d in
    core_is c (parts_of d) d.limits (ok_is (parts_of c) (parts_of d) (sym read_c ∙ read_d))

-- ---- one answer

answer_of : (bytes : List ℕ) (read : Result Parts ReadRefusal) → AreBytes bytes → reading bytes ≡ read
    → IsCore bytes ⊎ IsRefused bytes
answer_of bytes (Ok p) are e =
    let file = reading_taken bytes p are e in
    inl (core_with p file.0, file.1)
answer_of bytes (Err r) are e = inr (r.0, r.1, e)

pub some_answer : (bytes : List ℕ) → AreBytes bytes → IsCore bytes ⊎ IsRefused bytes
some_answer bytes are = answer_of bytes (reading bytes) are refl

pub core_not_refused : (bytes : List ℕ) → IsCore bytes → IsRefused bytes → ⊥
core_not_refused bytes core refused =
    let read_core : reading bytes ≡ Ok (parts_of core.0) = ap reading core.1 ∙ reading_again core.0 in
    let both = sym read_core ∙ refused.2 in
    cc

-- a core is not answered by a fault
pub error_at_core : (e : CoreError) (bytes : List ℕ) (c : CoreImage) (P : Type 0) → Fails e (reading bytes) → Core bytes c → (let answer : Result CoreImage CoreError = Err e in UnlessMemory answer P)
error_at_core OutOfMemory bytes c P failed is_core = tt
error_at_core (Fault at why) bytes c P failed is_core =
    absurd (core_not_refused bytes (c, is_core) (at, why, failed))

-- a file that was read as these parts is no other core
pub core_read : (bytes : List ℕ) (c : CoreImage) (p : Parts) (keeps : IsTrue (within_limits p.order p.contexts p.segments))
    → Core bytes c → reading bytes ≡ Ok p → core_with p keeps ≡ c
core_read bytes c p keeps is_core e =
    let read_c : reading bytes ≡ Ok (parts_of c) = ap reading is_core ∙ reading_again c in
    sym (core_is c p keeps (ok_is (parts_of c) p (sym read_c ∙ e)))
