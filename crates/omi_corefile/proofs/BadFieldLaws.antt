-- The fault of a file that spells a core up to a field and holds something else there.
use Rattle.std.proofs.Common.{◌≡◌, ◌≢◌, ℕ, ◌+◌, ◌*◌, ◌-◌, ◌^◌, ◌%◌, ◌<◌, ◌≤◌, Bool, true, false, cond, eqb, ltb, leb, List, [], ◌∷◌, ◌++◌, length, take, Ok, Err, refl, sym, ap, subst, ◌∙◌, append_assoc, arith, inl, inr, length-append}
use Rattle.std.specs.Prelude.{IsTrue, ◌&&◌, codes, nat_eq}
use Rattle.std.specs.List.{flat_map, starts_with}
use Rattle.std.specs.Int.{Width, w16, w32, w64, to_le_bytes}
use Rattle.std.specs.Cmp.Lexicographic.{same_text}
use Rattle.std.proofs.lemmas.Bool.{and_parts, eqb-true, leb-true, ltb-true, ne_eqb, le-ltb, false_from_ne_true}
use Rattle.std.proofs.lemmas.Grind.{flat_map-append}
use Rattle.std.proofs.lemmas.List.{append-nil, take_at}
use Rattle.std.proofs.lemmas.List.Sums.{sum_by-cons, sum_by-append}
use Rattle.omi_corefile.specs.declared.segment.Segment.{Segment}
use Rattle.omi_corefile.specs.declared.core_image.CoreImage.{CoreImage}
use Rattle.omi_corefile.specs.declared.fault.CoreFault.{CoreFault}
use Rattle.omi_corefile.specs.declared.fault.CoreFault.TheVariants.{BadMagic, Version, Order, SegmentOrder, BadContext, TooLarge}
use Rattle.omi_corefile.specs.ByteOrder.{is_order}
use Rattle.omi_corefile.specs.Limits.{is_start, end_of, total_words}
use Rattle.omi_word.specs.declared.limits.TheConstants.{FIRST_ADDRESS, MEMORY_END}
use Rattle.omi_corefile.specs.declared.limits.TheConstants.{MOST_CONTEXTS, MOST_SEGMENTS, MOST_SEGMENT_WORDS}
use Rattle.omi_corefile.specs.Spelling.{eight_bytes, numbers, words_in, header, segment_bytes, spelling}
use Rattle.omi_corefile.specs.BadFields.{IsFaultAt, id_place, start_place, count_place, NeverStarts}
use Rattle.omi_corefile.specs.Refusals.{ReadRefusal, ReadStep, ◌>>=◌, place_in_file, magic_at, byte_at, number_at, judged, version_at, order_at, context_count_at, segment_count_at, id_at, contexts_at, start_at, word_count_at, words_at, row_at, Left, left_after, segment_at, segments_at, Header, header_at, parts_at, reading}
use Rattle.omi_corefile.proofs.Bounds.{bounds}
use Rattle.omi_corefile.proofs.Lengths.{length-numbers, length-segments}
use Rattle.omi_corefile.proofs.Numbers.{bind_again, HasWidth, width16, width32, width64, magic_again}
use Rattle.omi_corefile.proofs.Readings.{Reads, Reads-number, Reads-judged, bind_failed}
use Rattle.omi_corefile.proofs.RowLaws.{AreGood, IsId, least_then, Reads-id, good-ids, IsSegment, good-segments, Reads-segment, Reads-contexts}
use Rattle.omi_corefile.proofs.FileLaws.{behind_name, behind_version, behind_order, behind_contexts, behind_counts, Reads-context_count, Reads-order, Reads-header, after_header, after_contexts, after_segments, ended}

-- ---- a field

-- what stands in front of a field tells its place
place_behind : (front rest : List ℕ) → place_in_file (length (front ++ rest)) rest ≡ length front
place_behind front rest = omega (arith, length-append front rest)

-- a number that a rule refuses
judged_bad : (allowed : ℕ → Bool) (fault : ℕ → ℕ → CoreFault) (at other : ℕ)
    (read : ReadStep ℕ) (n : ℕ) (rest : List ℕ)
    → read ≡ Ok (n, rest) → allowed n ≡ false → at ≡ other
    → judged allowed fault at read ≡ Err (other, fault n other)
judged_bad allowed fault at other read n rest e bad here = rw (e, bad, here) refl

-- a number of a few bytes that a rule refuses
field_bad : (w : Width) (limit : ℕ) (width : HasWidth w limit)
    (allowed : ℕ → Bool) (fault : ℕ → ℕ → CoreFault) (len at n : ℕ) (rest : List ℕ)
    → n < limit → allowed n ≡ false → place_in_file len (to_le_bytes w n ++ rest) ≡ at
    → judged allowed fault (place_in_file len (to_le_bytes w n ++ rest))
    (number_at w len (to_le_bytes w n ++ rest)) ≡ Err (at, fault n at)
field_bad w limit width allowed fault len at n rest below bad here =
    judged_bad allowed fault (place_in_file len (to_le_bytes w n ++ rest)) at
    (number_at w len (to_le_bytes w n ++ rest)) n rest
    ((Reads-number w limit width len n below).whole rest) bad here

-- a test of a limit fails above it
above : (n most : ℕ) → most < n → leb n most ≡ false
above n most over =
    false_from_ne_true (leb n most) (λ within. omega (arith, leb-true n most within))

-- each field that its rule refuses, where it stands
version_bad : (len at v : ℕ) (rest : List ℕ) → v ≢ 1 → place_in_file len (v ∷ rest) ≡ at
    → version_at len (v ∷ rest) ≡ Err (at, Version v)
version_bad len at v rest other here =
    judged_bad (λ n. eqb n 1) (λ n at. Version n) (place_in_file len (v ∷ rest)) at
    (byte_at len (v ∷ rest)) v rest refl (ne_eqb v 1 other) here

order_bad : (len at b : ℕ) (rest : List ℕ) → 1 < b → place_in_file len (b ∷ rest) ≡ at
    → order_at len (b ∷ rest) ≡ Err (at, Order b)
order_bad len at b rest over here =
    judged_bad is_order (λ n at. Order n) (place_in_file len (b ∷ rest)) at
    (byte_at len (b ∷ rest)) b rest refl (above b 1 over) here

context_count_bad : (len at n : ℕ) (rest : List ℕ) → n < 2 ^ 16 → MOST_CONTEXTS < n
    → place_in_file len (to_le_bytes w16 n ++ rest) ≡ at
    → context_count_at len (to_le_bytes w16 n ++ rest) ≡ Err (at, BadContext at)
context_count_bad len at n rest below over here =
    field_bad w16 (2 ^ 16) width16 (λ m. leb m MOST_CONTEXTS) (λ m at. BadContext at) len at n rest
    below (above n MOST_CONTEXTS over) here

segment_count_bad : (len at n : ℕ) (rest : List ℕ) → n < 2 ^ 32 → MOST_SEGMENTS < n
    → place_in_file len (to_le_bytes w32 n ++ rest) ≡ at
    → segment_count_at len (to_le_bytes w32 n ++ rest) ≡ Err (at, SegmentOrder at)
segment_count_bad len at n rest below over here =
    field_bad w32 (2 ^ 32) width32 (λ m. leb m MOST_SEGMENTS) (λ m at. SegmentOrder at) len at n rest
    below (above n MOST_SEGMENTS over) here

id_bad : (len least at n : ℕ) (rest : List ℕ) → n < 2 ^ 64 → n < least
    → place_in_file len (eight_bytes n ++ rest) ≡ at
    → id_at len least (eight_bytes n ++ rest) ≡ Err (at, BadContext at)
id_bad len least at n rest below low here =
    field_bad w64 (2 ^ 64) width64 (leb least) (λ m at. BadContext at) len at n rest
    below (above least n low) here

start_bad : (len least at n : ℕ) (rest : List ℕ) → n < 2 ^ 64 → is_start least n ≡ false
    → place_in_file len (eight_bytes n ++ rest) ≡ at
    → start_at len least (eight_bytes n ++ rest) ≡ Err (at, SegmentOrder at)
start_bad len least at n rest below bad here =
    field_bad w64 (2 ^ 64) width64 (is_start least) (λ m at. SegmentOrder at) len at n rest
    below bad here

-- the fault of a number of words
abbrev count_fault : ℕ → ℕ → CoreFault
count_fault n at = cond (eqb n 0) (SegmentOrder at) (TooLarge n)

word_count_bad : (len room at n : ℕ) (rest : List ℕ) → n < 2 ^ 64
    → (ltb 0 n && leb n room) ≡ false → place_in_file len (eight_bytes n ++ rest) ≡ at
    → word_count_at len room (eight_bytes n ++ rest) ≡ Err (at, count_fault n at)
word_count_bad len room at n rest below bad here =
    field_bad w64 (2 ^ 64) width64 (λ m. ltb 0 m && leb m room) count_fault len at n rest
    below bad here

-- a spelling with this front is refused by what stands behind the front
fault_at : (c : CoreImage) (front rest field : List ℕ) (at : ℕ) (why : CoreFault)
    → spelling c ≡ front ++ rest → length front ≡ at
    → ((bytes : List ℕ) → reading (front ++ (field ++ bytes)) ≡ Err (at, why))
    → IsFaultAt c at field why
fault_at c front rest field at why spelled len bad more =
    let same : take at (spelling c) ≡ front = ap (take at) spelled ∙ take_at front rest at len in
    subst (λ (f : List ℕ). reading (f ++ (field ++ more)) ≡ Err (at, why)) (sym same) (bad more)

-- ---- the header

-- what the header of a core says
abbrev counts_of : CoreImage → Header
counts_of c = record { order = c.order; contexts = length c.contexts; segments = length c.segments }

-- the header of a core
abbrev header_of : CoreImage → List ℕ
header_of c = header c.order (length c.contexts) (length c.segments)

-- the spelling of a core, from its header on
spelled : (c : CoreImage)
    → spelling c ≡ header_of c ++ (numbers c.contexts ++ flat_map (segment_bytes c.order) c.segments)
spelled c = append_assoc (header_of c) (numbers c.contexts) (flat_map (segment_bytes c.order) c.segments)

-- the header of a core is read
header_read : (c : CoreImage) (len : ℕ) (rest : List ℕ)
    → header_at len (header_of c ++ rest) ≡ Ok (counts_of c, rest)
header_read c len rest =
    let b = bounds c in
    let contexts : ℕ = length c.contexts in
    let segments : ℕ = length c.segments in
    (Reads-header len c.order contexts segments b.order_is b.few_contexts b.few_segments).whole rest

-- a file whose header is refused
header_failed : (bytes : List ℕ) (r : ReadRefusal) → header_at (length bytes) bytes ≡ Err r
    → reading bytes ≡ Err r
unfolding parts_at reading
header_failed bytes r e =
    bind_failed (parts_at (length bytes) bytes) (ended (length bytes)) r
    (bind_failed (header_at (length bytes) bytes) (after_header (length bytes)) r e)

-- a header whose name is that of the format is refused by what follows it
named_failed : (rest : List ℕ) (r : ReadRefusal)
    → (let bytes = codes "OMPDCOR1" ++ rest in
    behind_name (length bytes) rest ≡ Err r → reading bytes ≡ Err r)
unfolding header_at
named_failed rest r e =
    let bytes : List ℕ = codes "OMPDCOR1" ++ rest in
    let len : ℕ = length bytes in
    header_failed bytes r
    (bind_again (magic_at len bytes) (behind_name len) rest (magic_again len rest) ∙ e)

-- and one whose version and order are good, by what follows these
ordered_failed : (order : ℕ) (rest : List ℕ) (r : ReadRefusal) → is_order order ≡ true
    → (let bytes = codes "OMPDCOR1" ++ (1 ∷ order ∷ rest) in
    behind_order (length bytes) order rest ≡ Err r → reading bytes ≡ Err r)
ordered_failed order rest r known e =
    let text : List ℕ = order ∷ rest in
    let len : ℕ = length (codes "OMPDCOR1" ++ (1 ∷ text)) in
    named_failed (1 ∷ text) r
    (bind_again (order_at len text) (λ read. behind_order len read.0 read.1) (order, rest)
    ((Reads-order len order known).whole rest) ∙ e)

pub bad_magic : (c : CoreImage) (name : List ℕ) → length name ≡ 8 → name ≢ codes "OMPDCOR1"
    → IsFaultAt c 0 name BadMagic
unfolding magic_at header_at
bad_magic c name eight other =
    fault_at c [] (spelling c) name 0 BadMagic refl refl (λ bytes.
    let text : List ℕ = name ++ bytes in
    let front : take 8 text ≡ name = take_at name bytes 8 eight in
    let long : ltb (length text) 8 ≡ false =
    le-ltb (length text) 8 (omega (arith, length-append name bytes, eight)) in
    let differs : starts_with nat_eq text (codes "OMPDCOR1") ≡ false =
    false_from_ne_true _
    (λ same. other (sym (same_text (codes "OMPDCOR1") (take 8 text) (sym same) ∙ front))) in
    let failed : magic_at (length text) text ≡ Err (0, BadMagic) = rw (long, differs) refl in
    header_failed text (0, BadMagic)
    (bind_failed (magic_at (length text) text) (behind_name (length text)) (0, BadMagic) failed))

pub bad_version : (c : CoreImage) (v : ℕ) → v ≢ 1 → IsFaultAt c 8 (v ∷ []) (Version v)
bad_version c v other =
    let name : List ℕ = codes "OMPDCOR1" in
    let fault : ReadRefusal = (8, Version v) in
    fault_at c name _ (v ∷ []) 8 (Version v) refl refl (λ bytes.
    let rest : List ℕ = v ∷ bytes in
    let len : ℕ = length (name ++ rest) in
    let failed : version_at len rest ≡ Err fault =
    version_bad len 8 v bytes other (place_behind name rest) in
    named_failed rest fault
    (bind_failed (version_at len rest) (λ version. behind_version len version.1) fault failed))

pub bad_order : (c : CoreImage) (b : ℕ) → 1 < b → IsFaultAt c 9 (b ∷ []) (Order b)
bad_order c b over =
    let front : List ℕ = codes "OMPDCOR1" ++ 1 ∷ [] in
    let fault : ReadRefusal = (9, Order b) in
    fault_at c front _ (b ∷ []) 9 (Order b) refl refl (λ bytes.
    let rest : List ℕ = b ∷ bytes in
    let len : ℕ = length (front ++ rest) in
    let failed : order_at len rest ≡ Err fault =
    order_bad len 9 b bytes over (place_behind front rest) in
    named_failed (1 ∷ rest) fault
    (bind_failed (order_at len rest) (λ order. behind_order len order.0 order.1) fault failed))

pub bad_context_count : (c : CoreImage) (n : ℕ) → MOST_CONTEXTS < n → n < 2 ^ 16
    → IsFaultAt c 10 (to_le_bytes w16 n) (BadContext 10)
bad_context_count c n over below =
    let front : List ℕ = codes "OMPDCOR1" ++ 1 ∷ c.order ∷ [] in
    let counted : List ℕ = to_le_bytes w16 (length c.contexts) ++ to_le_bytes w32 (length c.segments) in
    let behind : List ℕ = counted ++ (numbers c.contexts ++ flat_map (segment_bytes c.order) c.segments) in
    let fault : ReadRefusal = (10, BadContext 10) in
    fault_at c front behind (to_le_bytes w16 n) 10 (BadContext 10) (spelled c) refl (λ bytes.
    let rest : List ℕ = to_le_bytes w16 n ++ bytes in
    let len : ℕ = length (front ++ rest) in
    let failed : context_count_at len rest ≡ Err fault =
    context_count_bad len 10 n bytes below over (place_behind front rest) in
    ordered_failed c.order rest fault (bounds c).order_is
    (bind_failed (context_count_at len rest) (λ contexts. behind_contexts len c.order contexts.0 contexts.1)
    fault failed))

pub bad_segment_count : (c : CoreImage) (n : ℕ) → MOST_SEGMENTS < n → n < 2 ^ 32
    → IsFaultAt c 12 (to_le_bytes w32 n) (SegmentOrder 12)
bad_segment_count c n over below =
    let contexts : ℕ = length c.contexts in
    let counted : List ℕ = to_le_bytes w16 contexts in
    let front : List ℕ = codes "OMPDCOR1" ++ 1 ∷ c.order ∷ counted in
    let parts : List ℕ = numbers c.contexts ++ flat_map (segment_bytes c.order) c.segments in
    let behind : List ℕ = to_le_bytes w32 (length c.segments) ++ parts in
    let fault : ReadRefusal = (12, SegmentOrder 12) in
    fault_at c front behind (to_le_bytes w32 n) 12 (SegmentOrder 12) (spelled c) refl (λ bytes.
    let rest : List ℕ = to_le_bytes w32 n ++ bytes in
    let len : ℕ = length (front ++ rest) in
    let contexts_read : context_count_at len (counted ++ rest) ≡ Ok (contexts, rest) =
    (Reads-context_count len contexts (bounds c).few_contexts).whole rest in
    let failed : segment_count_at len rest ≡ Err fault =
    segment_count_bad len 12 n bytes below over (place_behind front rest) in
    ordered_failed c.order (counted ++ rest) fault (bounds c).order_is
    (bind_again (context_count_at len (counted ++ rest))
    (λ read. behind_contexts len c.order read.0 read.1) (contexts, rest) contexts_read
    ∙ bind_failed (segment_count_at len rest) (behind_counts c.order contexts) fault failed))

-- ---- a row

-- what a row leaves
state_after : {S A : Type 0} → (S → A → S) → S → List A → S
state_after next s [] = s
state_after next s (x ∷ xs) = state_after next (next s x) xs

state_after-push : {S A : Type 0} (next : S → A → S) (s : S) (xs : List A) (x : A)
    → state_after next s (xs ++ x ∷ []) ≡ next (state_after next s xs) x
unfolding state_after
state_after-push next s [] x = refl
state_after-push next s (y ∷ xs) x = state_after-push next (next s y) xs x

-- a front of a good row is good
good_front : {S A : Type 0} (Good : S → A → Type 0) (next : S → A → S) (s : S) (xs ys : List A)
    → AreGood Good next s (xs ++ ys) → AreGood Good next s xs
good_front Good next s [] ys good = tt
good_front Good next s (x ∷ xs) ys good = (good.0, good_front Good next (next s x) xs ys good.1)

-- a row is refused by the first of it that is
row_failed : {S A : Type 0} (len : ℕ) (Good : S → A → Type 0) (one : S → List ℕ → ReadStep A)
    (next : S → A → S) (spell : A → List ℕ)
    → ((s : S) (x : A) → Good s x → Reads len (one s) (spell x) x)
    → (s : S) (row after : List A) (y : A) (bytes : List ℕ) (r : ReadRefusal)
    → AreGood Good next s row → one (state_after next s row) bytes ≡ Err r
    → row_at one next (length (row ++ y ∷ after)) s (flat_map spell row ++ bytes) ≡ Err r
unfolding row_at state_after
row_failed len Good one next spell each s [] after y bytes r good failed =
    bind_failed (one s bytes) _ r failed
row_failed {S} {A} len Good one next spell each s (x ∷ row) after y bytes r good failed =
    let count : ℕ = length (row ++ y ∷ after) in
    let behind : List ℕ = flat_map spell row ++ bytes in
    let others : A × List ℕ → ReadStep (List A) = λ first.
    row_at one next count (next s first.0) first.1
    >>= λ others. Ok (first.0 ∷ others.0, others.1) in
    ap (λ (text : List ℕ). one s text >>= others) (append_assoc (spell x) (flat_map spell row) bytes)
    ∙ bind_again (one s (spell x ++ behind)) others (x, behind) ((each s x good.0).whole behind)
    ∙ bind_failed (row_at one next count (next s x) behind) _ r
    (row_failed len Good one next spell each (next s x) row after y bytes r good.1 failed)

-- ---- native ids

-- the least id behind these
abbrev least_behind : List ℕ → ℕ
least_behind ids = state_after least_then 0 ids

-- the first native ids of a core are good, each by those before it
ids_are_good : (c : CoreImage) (ids more : List ℕ) → c.contexts ≡ ids ++ more
    → AreGood IsId least_then 0 ids
ids_are_good c ids more are =
    let b = bounds c in
    good_front IsId least_then 0 ids more
    (subst (AreGood IsId least_then 0) are
    (good-ids 0 c.contexts b.contexts_rise b.contexts_are_words))

-- the spelling of a core, from a native id on
spelled_ids : (c : CoreImage) (ids more : List ℕ) → c.contexts ≡ ids ++ more
    → spelling c
    ≡ (header_of c ++ numbers ids) ++ (numbers more ++ flat_map (segment_bytes c.order) c.segments)
spelled_ids c ids more are =
    let segments : List ℕ = flat_map (segment_bytes c.order) c.segments in
    let split : numbers c.contexts ≡ numbers ids ++ numbers more =
    ap numbers are ∙ flat_map-append eight_bytes ids more in
    spelled c
    ∙ ap (λ (xs : List ℕ). header_of c ++ (xs ++ segments)) split
    ∙ ap (λ (xs : List ℕ). header_of c ++ xs) (append_assoc (numbers ids) (numbers more) segments)
    ∙ sym (append_assoc (header_of c) (numbers ids) (numbers more ++ segments))

-- a file that spells a core's header, and whose native ids are refused
contexts_failed : (c : CoreImage) (rest : List ℕ) (r : ReadRefusal)
    → (let bytes = header_of c ++ rest in
    contexts_at (length bytes) (length c.contexts) rest ≡ Err r → reading bytes ≡ Err r)
unfolding parts_at reading
contexts_failed c rest r failed =
    let bytes : List ℕ = header_of c ++ rest in
    let len : ℕ = length bytes in
    let counts : Header = counts_of c in
    let parts_failed : parts_at len bytes ≡ Err r =
    bind_again (header_at len bytes) (after_header len) (counts, rest) (header_read c len rest)
    ∙ bind_failed (contexts_at len counts.contexts rest) (after_contexts len counts) r failed in
    bind_failed (parts_at len bytes) (ended len) r parts_failed

-- a file that spells a core up to a native id is refused where the id is
id_failed : (c : CoreImage) (ids after : List ℕ) (id : ℕ) (rest : List ℕ) (r : ReadRefusal)
    → c.contexts ≡ ids ++ id ∷ after
    → (let bytes = header_of c ++ (numbers ids ++ rest) in
    id_at (length bytes) (least_behind ids) rest ≡ Err r → reading bytes ≡ Err r)
id_failed c ids after id rest r are failed =
    let text : List ℕ = numbers ids ++ rest in
    let len : ℕ = length (header_of c ++ text) in
    let row : row_at (id_at len) least_then (length (ids ++ id ∷ after)) 0 text ≡ Err r =
    row_failed len IsId (id_at len) least_then eight_bytes (Reads-id len) 0 ids after id rest r
    (ids_are_good c ids (id ∷ after) are) failed in
    contexts_failed c text r (ap (λ (xs : List ℕ). contexts_at len (length xs) text) are ∙ row)

pub bad_id : (c : CoreImage) (before after : List ℕ) (last id n : ℕ)
    → c.contexts ≡ before ++ last ∷ id ∷ after → n ≤ last
    → (let at = id_place (length before + 1) in IsFaultAt c at (eight_bytes n) (BadContext at))
bad_id c before after last id n are low =
    let at : ℕ = id_place (length before + 1) in
    let ids : List ℕ = before ++ last ∷ [] in
    let split : c.contexts ≡ ids ++ id ∷ after =
    are ∙ sym (append_assoc before (last ∷ []) (id ∷ after)) in
    let front : List ℕ = header_of c ++ numbers ids in
    let behind : List ℕ = numbers (id ∷ after) ++ flat_map (segment_bytes c.order) c.segments in
    let so_long : length front ≡ at =
    omega (
      arith,
      length-append (header_of c) (numbers ids),
      length-numbers ids,
      length-append before (last ∷ []),
    ) in
    let last_below : last < 2 ^ 64 =
    last_is_word before 0 (ids_are_good c ids (id ∷ after) split) in
    let least : least_behind ids ≡ last + 1 = state_after-push least_then 0 before last in
    fault_at c front behind (eight_bytes n) at (BadContext at)
    (spelled_ids c ids (id ∷ after) split) so_long (λ bytes.
    let rest : List ℕ = eight_bytes n ++ bytes in
    let text : List ℕ = header_of c ++ (numbers ids ++ rest) in
    let joined : front ++ rest ≡ text = append_assoc (header_of c) (numbers ids) rest in
    let here : place_in_file (length text) rest ≡ at =
    subst (λ (bytes : List ℕ). place_in_file (length bytes) rest ≡ at) joined
    (place_behind front rest ∙ so_long) in
    let failed : id_at (length text) (least_behind ids) rest ≡ Err (at, BadContext at) =
    id_bad (length text) (least_behind ids) at n bytes
    (omega (arith, low, last_below)) (omega (arith, low, least)) here in
    ap reading joined ∙ id_failed c ids after id rest (at, BadContext at) split failed)
  where
    last_is_word : (xs : List ℕ) (least : ℕ) → AreGood IsId least_then least (xs ++ last ∷ [])
        → last < 2 ^ 64
    last_is_word [] least good = good.0.1
    last_is_word (x ∷ xs) least good = last_is_word xs (x + 1) good.1

-- ---- segments

-- where no segment stands before: the least start address, and the room for words
abbrev no_segment : Left
no_segment = (FIRST_ADDRESS, MOST_SEGMENT_WORDS)

-- what the segments before one leave
abbrev left_behind : List Segment → Left
left_behind before = state_after left_after no_segment before

-- a file that spells a core up to its segments, and up to a segment
abbrev contexts_of : CoreImage → List ℕ
contexts_of c = header_of c ++ numbers c.contexts

abbrev upto : CoreImage → List Segment → List ℕ
upto c before = contexts_of c ++ flat_map (segment_bytes c.order) before

-- the first segments of a core are good, each by those before it
segments_are_good : (c : CoreImage) (before more : List Segment) → c.segments ≡ before ++ more
    → AreGood IsSegment left_after no_segment before
segments_are_good c before more are =
    let b = bounds c in
    good_front IsSegment left_after no_segment before more
    (subst (AreGood IsSegment left_after no_segment) are
    (good-segments no_segment c.segments (omega arith) b.segments_rise b.few_words))

-- the spelling of a core, from a segment on
spelled_from : (c : CoreImage) (before behind : List Segment) → c.segments ≡ before ++ behind
    → spelling c ≡ upto c before ++ flat_map (segment_bytes c.order) behind
spelled_from c before behind are =
    let split : flat_map (segment_bytes c.order) c.segments
    ≡ flat_map (segment_bytes c.order) before ++ flat_map (segment_bytes c.order) behind =
    ap (flat_map (segment_bytes c.order)) are ∙ flat_map-append (segment_bytes c.order) before behind in
    spelled c
    ∙ sym (append_assoc (header_of c) (numbers c.contexts) (flat_map (segment_bytes c.order) c.segments))
    ∙ ap (λ (xs : List ℕ). contexts_of c ++ xs) split
    ∙ sym (append_assoc (contexts_of c) (flat_map (segment_bytes c.order) before)
    (flat_map (segment_bytes c.order) behind))

start_front : (c : CoreImage) (before : List Segment)
    → length (upto c before) ≡ start_place c before
start_front c before =
    omega (
      arith,
      length-append (contexts_of c) (flat_map (segment_bytes c.order) before),
      length-append (header_of c) (numbers c.contexts),
      length-numbers c.contexts,
      length-segments c.order before,
    )

-- a file that spells a core up to its segments, which are refused
segments_failed : (c : CoreImage) (rest : List ℕ) (r : ReadRefusal)
    → (let bytes = contexts_of c ++ rest in
    segments_at (length bytes) c.order (length c.segments) rest ≡ Err r → reading bytes ≡ Err r)
unfolding parts_at reading
segments_failed c rest r failed =
    let bytes : List ℕ = contexts_of c ++ rest in
    let len : ℕ = length bytes in
    let counts : Header = counts_of c in
    let b = bounds c in
    let behind : List ℕ = numbers c.contexts ++ rest in
    let text : List ℕ = header_of c ++ behind in
    let joined : bytes ≡ text = append_assoc (header_of c) (numbers c.contexts) rest in
    let ids_read : contexts_at len counts.contexts behind ≡ Ok (c.contexts, rest) =
    (Reads-contexts len c.contexts b.contexts_rise b.contexts_are_words).whole rest in
    let parts_failed : parts_at len bytes ≡ Err r =
    ap (λ (text : List ℕ). header_at len text >>= after_header len) joined
    ∙ bind_again (header_at len text) (after_header len) (counts, behind) (header_read c len behind)
    ∙ bind_again (contexts_at len counts.contexts behind) (after_contexts len counts)
    (c.contexts, rest) ids_read
    ∙ bind_failed (segments_at len c.order counts.segments rest) (after_segments counts c.contexts) r failed in
    bind_failed (parts_at len bytes) (ended len) r parts_failed

-- bytes where a segment behind these is to stand are refused, in a file of any length
abbrev IsNoSegment : CoreImage → List Segment → List ℕ → ReadRefusal → Type 0
IsNoSegment c before bytes r = (len : ℕ) → place_in_file len bytes ≡ start_place c before
    → segment_at len c.order (left_behind before) bytes ≡ Err r

-- a file that spells a core up to a segment is refused where the segment is
segment_failed : (c : CoreImage) (before after : List Segment) (s : Segment) (rest : List ℕ)
    (r : ReadRefusal) → c.segments ≡ before ++ s ∷ after → IsNoSegment c before rest r
    → reading (upto c before ++ rest) ≡ Err r
segment_failed c before after s rest r are failed =
    let behind : List ℕ = flat_map (segment_bytes c.order) before ++ rest in
    let text : List ℕ = contexts_of c ++ behind in
    let len : ℕ = length text in
    let joined : upto c before ++ rest ≡ text =
    append_assoc (contexts_of c) (flat_map (segment_bytes c.order) before) rest in
    let here : place_in_file len rest ≡ start_place c before =
    omega (
      arith,
      length-append (contexts_of c) behind,
      length-append (flat_map (segment_bytes c.order) before) rest,
      length-append (header_of c) (numbers c.contexts),
      length-numbers c.contexts,
      length-segments c.order before,
    ) in
    let count : ℕ = length (before ++ s ∷ after) in
    let row : row_at (segment_at len c.order) left_after count no_segment behind ≡ Err r =
    row_failed {S = Left} len IsSegment (segment_at len c.order) left_after (segment_bytes c.order) (Reads-segment len c.order)
    no_segment before after s rest r (segments_are_good c before (s ∷ after) are) (failed len here) in
    ap reading joined
    ∙ segments_failed c behind r
    (ap (λ (xs : List Segment). segments_at len c.order (length xs) behind) are ∙ row)

-- what follows a segment's number of words, and its start address
abbrev behind_word_count : ℕ → ℕ → ℕ → ℕ × List ℕ → ReadStep Segment
behind_word_count len order start count =
    words_at len order count.0 count.1
    >>= λ words. Ok (record { start = start; words = words.0 }, words.1)

abbrev behind_start : ℕ → ℕ → Left → ℕ × List ℕ → ReadStep Segment
behind_start len order left start =
    word_count_at len left.1 start.1 >>= behind_word_count len order start.0

-- a start address that the rule refuses
start_refused : (c : CoreImage) (before after : List Segment) (s : Segment) (n : ℕ)
    → c.segments ≡ before ++ s ∷ after → n < 2 ^ 64 → is_start (left_behind before).0 n ≡ false
    → (let at = start_place c before in IsFaultAt c at (eight_bytes n) (SegmentOrder at))
unfolding segment_at
start_refused c before after s n are below bad =
    let at : ℕ = start_place c before in
    let left : Left = left_behind before in
    let fault : ReadRefusal = (at, SegmentOrder at) in
    fault_at c (upto c before) (flat_map (segment_bytes c.order) (s ∷ after)) (eight_bytes n) at
    (SegmentOrder at) (spelled_from c before (s ∷ after) are) (start_front c before) (λ bytes.
    let rest : List ℕ = eight_bytes n ++ bytes in
    segment_failed c before after s rest fault are (λ len here.
    bind_failed (start_at len left.0 rest) (behind_start len c.order left) fault
    (start_bad len left.0 at n bytes below bad here)))

-- what a start address that is allowed keeps
record Allowed (least n : ℕ) : Type 0 where
  aligned : n % 8 ≡ 0
  high : least ≤ n
  low : n < MEMORY_END

allowed_of : (least n : ℕ) → IsTrue (is_start least n) → Allowed least n
allowed_of least n e =
    let whole = and_parts (eqb (n % 8) 0 && leb least n) (ltb n MEMORY_END) e in
    let front = and_parts (eqb (n % 8) 0) (leb least n) whole.0 in
    record {
      aligned = eqb-true (n % 8) 0 front.0;
      high = leb-true least n front.1;
      low = ltb-true n MEMORY_END whole.1;
    }

-- the least start address never falls
least_rises : (left : Left) (ss : List Segment) → AreGood IsSegment left_after left ss
    → left.0 ≤ (state_after left_after left ss).0
unfolding state_after
least_rises left [] good = omega arith
least_rises left (s ∷ ss) good =
    omega (
      arith,
      (allowed_of left.0 s.start good.0.0).high,
      least_rises (left_after left s) ss good.1,
    )

-- an address where no segment starts is refused behind any others
never_starts : (least n : ℕ) → FIRST_ADDRESS ≤ least → NeverStarts n → is_start least n ≡ false
never_starts least n rises never =
    false_from_ne_true (is_start least n) (λ e.
    let kept = allowed_of least n e in
    elim never [
      | inl odd ↦ odd kept.aligned
      | inr other ↦ elim other [
        | inl low ↦ omega (arith, low, kept.high, rises)
        | inr high ↦ omega (arith, high, kept.low)
      ]
    ])

pub bad_start : (c : CoreImage) (before after : List Segment) (s : Segment) (n : ℕ)
    → c.segments ≡ before ++ s ∷ after → n < 2 ^ 64 → NeverStarts n
    → (let at = start_place c before in IsFaultAt c at (eight_bytes n) (SegmentOrder at))
bad_start c before after s n are below never =
    let good = segments_are_good c before (s ∷ after) are in
    let rises : FIRST_ADDRESS ≤ (left_behind before).0 = least_rises no_segment before good in
    start_refused c before after s n are below (never_starts (left_behind before).0 n rises never)

pub touching : (c : CoreImage) (before after : List Segment) (last s : Segment) (n : ℕ)
    → c.segments ≡ before ++ last ∷ s ∷ after → n ≤ last.start + 8 * length last.words
    → (let at = start_place c (before ++ last ∷ []) in
    IsFaultAt c at (eight_bytes n) (SegmentOrder at))
touching c before after last s n are low =
    let ss : List Segment = before ++ last ∷ [] in
    let split : c.segments ≡ ss ++ s ∷ after =
    are ∙ sym (append_assoc before (last ∷ []) (s ∷ after)) in
    let small = last_small before no_segment (omega arith)
    (segments_are_good c ss (s ∷ after) split) in
    let least : ℕ = (left_behind ss).0 in
    let behind_last : least ≡ end_of last.start (length last.words) + 1 =
    ap (λ (left : Left). left.0) (state_after-push left_after no_segment before last) in
    let refused : is_start least n ≡ false =
    false_from_ne_true (is_start least n)
    (λ e. omega (arith, (allowed_of least n e).high, behind_last, low)) in
    start_refused c ss after s n split (omega (arith, low, small.0, small.1)) refused
  where
    last_small : (xs : List Segment) (left : Left) → left.1 ≤ MOST_SEGMENT_WORDS
        → AreGood IsSegment left_after left (xs ++ last ∷ [])
        → (last.start < MEMORY_END) × (length last.words ≤ MOST_SEGMENT_WORDS)
    last_small [] left room good =
        ((allowed_of left.0 last.start good.0.0).low, omega (arith, good.0.2, room))
    last_small (x ∷ xs) left room good =
        last_small xs (left_after left x) (omega (arith, room)) good.1

-- the room that segments leave
room_left : (left : Left) (ss : List Segment)
    → (state_after left_after left ss).1 ≡ left.1 - total_words ss
unfolding state_after
room_left left [] = omega arith
room_left left (s ∷ ss) =
    omega (
      arith,
      room_left (left_after left s) ss,
      sum_by-cons (λ (t : Segment). length t.words) s ss,
    )

-- a segment of a good row starts where it may
last_start : (xs after : List Segment) (s : Segment) (left : Left)
    → AreGood IsSegment left_after left (xs ++ s ∷ after)
    → IsTrue (is_start (state_after left_after left xs).0 s.start)
unfolding state_after
last_start [] after s left good = good.0.0
last_start (x ∷ xs) after s left good = last_start xs after s (left_after left x) good.1

-- a start address that is allowed is read
start_read : (len least start : ℕ) (rest : List ℕ) → IsTrue (is_start least start)
    → start_at len least (eight_bytes start ++ rest) ≡ Ok (start, rest)
start_read len least start rest good =
    let low : start < MEMORY_END = (allowed_of least start good).low in
    let number = Reads-number w64 (2 ^ 64) width64 len start (omega (arith, low)) in
    (Reads-judged len (is_start least) (λ m at. SegmentOrder at) (place_in_file len)
    (number_at w64 len) (eight_bytes start) start number good).whole rest

-- the spelling of a core, from a segment's number of words on
spelled_count : (c : CoreImage) (before after : List Segment) (s : Segment)
    → c.segments ≡ before ++ s ∷ after
    → spelling c
    ≡ (upto c before ++ eight_bytes s.start)
    ++ ((eight_bytes (length s.words) ++ words_in c.order s.words) ++ flat_map (segment_bytes c.order) after)
spelled_count c before after s are =
    let start : List ℕ = eight_bytes s.start in
    let count : List ℕ = eight_bytes (length s.words) in
    let words : List ℕ = words_in c.order s.words in
    let others : List ℕ = flat_map (segment_bytes c.order) after in
    let joined : segment_bytes c.order s ++ others ≡ start ++ ((count ++ words) ++ others) =
    ap (λ (xs : List ℕ). xs ++ others) (append_assoc start count words)
    ∙ append_assoc start (count ++ words) others in
    spelled_from c before (s ∷ after) are
    ∙ ap (λ (xs : List ℕ). upto c before ++ xs) joined
    ∙ sym (append_assoc (upto c before) start ((count ++ words) ++ others))

-- a number of words that the rule refuses
count_refused : (c : CoreImage) (before after : List Segment) (s : Segment) (n : ℕ) (why : CoreFault)
    → c.segments ≡ before ++ s ∷ after → n < 2 ^ 64
    → (ltb 0 n && leb n (left_behind before).1) ≡ false
    → count_fault n (count_place c before) ≡ why
    → IsFaultAt c (count_place c before) (eight_bytes n) why
unfolding segment_at
count_refused c before after s n why are below bad told =
    let at : ℕ = count_place c before in
    let left : Left = left_behind before in
    let start : List ℕ = eight_bytes s.start in
    let counted : List ℕ = eight_bytes (length s.words) ++ words_in c.order s.words in
    let so_long : length (upto c before ++ start) ≡ at =
    omega (arith, length-append (upto c before) start, start_front c before) in
    let good = subst (AreGood IsSegment left_after no_segment) are
    (segments_are_good c c.segments [] (sym (append-nil c.segments))) in
    let start_good : IsTrue (is_start left.0 s.start) = last_start before after s no_segment good in
    fault_at c (upto c before ++ start) (counted ++ flat_map (segment_bytes c.order) after) (eight_bytes n) at
    why (spelled_count c before after s are) so_long (λ bytes.
    let rest : List ℕ = eight_bytes n ++ bytes in
    ap reading (append_assoc (upto c before) start rest)
    ∙ segment_failed c before after s (start ++ rest) (at, why) are (λ len here.
    let there : place_in_file len rest ≡ at = omega (arith, here, length-append start rest) in
    let failed : word_count_at len left.1 rest ≡ Err (at, why) =
    word_count_bad len left.1 at n bytes below bad there
    ∙ ap (λ (w : CoreFault). Err (at, w)) told in
    bind_again (start_at len left.0 (start ++ rest)) (behind_start len c.order left) (s.start, rest)
    (start_read len left.0 s.start rest start_good)
    ∙ bind_failed (word_count_at len left.1 rest) (behind_word_count len c.order s.start) (at, why) failed))

pub no_words : (c : CoreImage) (before after : List Segment) (s : Segment)
    → c.segments ≡ before ++ s ∷ after
    → (let at = count_place c before in IsFaultAt c at (eight_bytes 0) (SegmentOrder at))
no_words c before after s are =
    count_refused c before after s 0 (SegmentOrder (count_place c before)) are (omega arith) refl refl

pub too_large : (c : CoreImage) (before after : List Segment) (s : Segment) (n : ℕ)
    → c.segments ≡ before ++ s ∷ after → n < 2 ^ 64 → MOST_SEGMENT_WORDS < total_words before + n
    → IsFaultAt c (count_place c before) (eight_bytes n) (TooLarge n)
too_large c before after s n are below over =
    let within = sum_by-append (λ (t : Segment). length t.words) before (s ∷ after) in
    let total : total_words c.segments ≡ total_words before + total_words (s ∷ after) =
    ap total_words are ∙ within in
    let few : total_words c.segments ≤ MOST_SEGMENT_WORDS = (bounds c).few_words in
    let some : n ≢ 0 = λ none. omega (arith, over, none, total, few) in
    let not_zero : eqb n 0 ≡ false = ne_eqb n 0 some in
    let room : ℕ = (left_behind before).1 in
    let left : room ≡ MOST_SEGMENT_WORDS - total_words before = room_left no_segment before in
    let refused : (ltb 0 n && leb n room) ≡ false =
    false_from_ne_true (ltb 0 n && leb n room) (λ e.
    let fits : n ≤ room = leb-true n room (and_parts (ltb 0 n) (leb n room) e).1 in
    omega (arith, fits, left, over, total, few)) in
    count_refused c before after s n (TooLarge n) are below refused (rw not_zero refl)
