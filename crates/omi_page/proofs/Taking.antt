-- How many bytes each step of reading a core file takes.
use Rattle.std.proofs.Common.{◌≡◌, ℕ, zero, suc, ◌+◌, ◌-◌, ◌*◌, ◌≤◌, true, cond, eqb, ltb, leb, List, [], ◌∷◌, length, take, drop, Ok, Err, sym, ap, subst, ◌∙◌, arith}
use Rattle.std.specs.Prelude.{codes, nat_eq, ◌&&◌}
use Rattle.std.specs.List.{starts_with}
use Rattle.std.specs.Int.{Width, w16, w32, w64, byte_len, from_le_bytes}
use Rattle.std.proofs.lemmas.Bool.{ltb-false, leb-true}
use Rattle.std.proofs.lemmas.List.{drop-drop, length-drop}
use Rattle.omi_corefile.specs.declared.fault.CoreFault.TheVariants.{BadMagic, Version, Order, SegmentOrder, BadContext, TooLarge}
use Rattle.omi_corefile.specs.declared.limits.TheConstants.{MOST_CONTEXTS, MOST_SEGMENTS}
use Rattle.omi_corefile.specs.ByteOrder.{is_order}
use Rattle.omi_corefile.specs.Limits.{is_start}
use Rattle.omi_corefile.specs.Refusals.{◌>>=◌, place_in_file, short, number_at, byte_at, magic_at, version_at, order_at, context_count_at, segment_count_at, id_at, start_at, word_count_at, row_at, Header, header_at, Left}
use Rattle.omi_corefile.proofs.Numbers.{bind_ok, bind_again, passed, not_failed, ok_is, judged_taken}
use Rattle.omi_page.specs.Bounds.{bounds_at}

-- so many bytes were taken from the front, and the rest is left
pub record Took (n : ℕ) (bytes rest : List ℕ) : Type 0 where
  pub long : n ≤ length bytes
  pub left : rest ≡ drop n bytes

Took-then : (n m : ℕ) (a b c : List ℕ) → Took n a b → Took m b c → Took (n + m) a c
Took-then n m a b c p q =
    let rest : length b ≡ length a - n = ap length p.left ∙ length-drop n a in
    record {
      long = omega (arith, rest, p.long, q.long);
      left = q.left ∙ ap (drop m) p.left ∙ drop-drop m n a;
    }

number_took : (w : Width) (len : ℕ) (bytes : List ℕ) (x : ℕ × List ℕ) → number_at w len bytes ≡ Ok x
    → Took (byte_len w) bytes x.1
number_took w len bytes x e =
    let got : ℕ × List ℕ = (from_le_bytes w (take (byte_len w) bytes), drop (byte_len w) bytes) in
    let went = not_failed (ltb (length bytes) (byte_len w)) (short len) (Ok got) x e in
    record {
      long = ltb-false _ _ went.0;
      left = sym (ap (λ (y : ℕ × List ℕ). y.1) (ok_is got x went.1));
    }

byte_took : (len : ℕ) (bytes : List ℕ) (x : ℕ × List ℕ) → byte_at len bytes ≡ Ok x → Took 1 bytes x.1
byte_took len [] x e = absurd cc
byte_took len (b ∷ bytes) x e = record { long = omega arith; left = sym (ap (λ (y : ℕ × List ℕ). y.1) (ok_is (b, bytes) x e)) }

magic_took : (len : ℕ) (bytes rest : List ℕ) → magic_at len bytes ≡ Ok rest → Took 8 bytes rest
unfolding magic_at
magic_took len bytes rest e =
    let name : List ℕ = codes "OMPDCOR1" in
    let went =
    not_failed (ltb (length bytes) 8) (short len)
    (cond (starts_with nat_eq bytes name) (Ok (drop 8 bytes)) (Err (0, BadMagic))) rest e in
    let went_on = passed (starts_with nat_eq bytes name) (0, BadMagic) (drop 8 bytes) rest went.1 in
    record { long = ltb-false _ _ went.0; left = sym went_on.1 }

-- what is known of a header that was read
pub record TookHeader (bytes : List ℕ) (counts : Header) (rest : List ℕ) : Type 0 where
  pub took : Took 16 bytes rest
  pub order_is : counts.order ≤ 1
  pub few_contexts : counts.contexts ≤ MOST_CONTEXTS
  pub few_segments : counts.segments ≤ MOST_SEGMENTS

pub header_took : (len : ℕ) (bytes : List ℕ) (x : Header × List ℕ) → header_at len bytes ≡ Ok x
    → TookHeader bytes x.0 x.1
unfolding header_at
header_took len bytes x e =
    let a =
    bind_ok (magic_at len bytes)
    (λ magic. version_at len magic >>= λ version. order_at len version.1 >>= λ order. context_count_at len order.1 >>= λ contexts. segment_count_at len contexts.1 >>= λ segments. Ok (record { order = order.0; contexts = contexts.0; segments = segments.0 }, segments.1)) x e in
    let b =
    bind_ok (version_at len a.0)
    (λ version. order_at len version.1 >>= λ order. context_count_at len order.1 >>= λ contexts. segment_count_at len contexts.1 >>= λ segments. Ok (record { order = order.0; contexts = contexts.0; segments = segments.0 }, segments.1)) x a.2 in
    let c =
    bind_ok (order_at len b.0.1)
    (λ order. context_count_at len order.1 >>= λ contexts. segment_count_at len contexts.1 >>= λ segments. Ok (record { order = order.0; contexts = contexts.0; segments = segments.0 }, segments.1)) x b.2 in
    let d =
    bind_ok (context_count_at len c.0.1)
    (λ contexts. segment_count_at len contexts.1 >>= λ segments. Ok (record { order = c.0.0; contexts = contexts.0; segments = segments.0 }, segments.1)) x c.2 in
    let f =
    bind_ok (segment_count_at len d.0.1)
    (λ segments. Ok (record { order = c.0.0; contexts = d.0.0; segments = segments.0 }, segments.1)) x d.2 in
    let version_judged =
    judged_taken (λ v. eqb v 1) (λ v at. Version v) (place_in_file len a.0) (byte_at len a.0) b.0 b.1 in
    let order_judged =
    judged_taken is_order (λ v at. Order v) (place_in_file len b.0.1) (byte_at len b.0.1) c.0 c.1 in
    let contexts_judged =
    judged_taken (λ n. leb n MOST_CONTEXTS) (λ n at. BadContext at) (place_in_file len c.0.1)
    (number_at w16 len c.0.1) d.0 d.1 in
    let segments_judged =
    judged_taken (λ n. leb n MOST_SEGMENTS) (λ n at. SegmentOrder at) (place_in_file len d.0.1)
    (number_at w32 len d.0.1) f.0 f.1 in
    let upto_version =
    Took-then 8 1 bytes a.0 b.0.1 (magic_took len bytes a.0 a.1) (byte_took len a.0 b.0 version_judged.0) in
    let upto_order = Took-then 9 1 bytes b.0.1 c.0.1 upto_version (byte_took len b.0.1 c.0 order_judged.0) in
    let upto_contexts =
    Took-then 10 2 bytes c.0.1 d.0.1 upto_order (number_took w16 len c.0.1 d.0 contexts_judged.0) in
    let whole =
    Took-then 12 4 bytes d.0.1 f.0.1 upto_contexts (number_took w32 len d.0.1 f.0 segments_judged.0) in
    let made : Header × List ℕ = (record { order = c.0.0; contexts = d.0.0; segments = f.0.0 }, f.0.1) in
    subst (λ (y : Header × List ℕ). TookHeader bytes y.0 y.1) {x = made} (ok_is made x f.2) (record {
      took = whole;
      order_is = leb-true c.0.0 1 order_judged.1;
      few_contexts = leb-true d.0.0 MOST_CONTEXTS contexts_judged.1;
      few_segments = leb-true f.0.0 MOST_SEGMENTS segments_judged.1;
    })

pub contexts_took : (len least count : ℕ) (bytes : List ℕ) (x : List ℕ × List ℕ)
    → row_at (id_at len) (λ least id. id + 1) count least bytes ≡ Ok x → Took (8 * count) bytes x.1
unfolding row_at
contexts_took len least zero bytes x e = record { long = omega arith; left = sym (ap (λ (y : List ℕ × List ℕ). y.1) (ok_is ([], bytes) x e)) }
contexts_took len least (suc count) bytes x e =
    let a =
    bind_ok (id_at len least bytes)
    (λ first. row_at (id_at len) (λ least id. id + 1) count (first.0 + 1) first.1 >>= λ others. Ok (first.0 ∷ others.0, others.1)) x e in
    let b =
    bind_ok (row_at (id_at len) (λ least id. id + 1) count (a.0.0 + 1) a.0.1)
    (λ others. Ok (a.0.0 ∷ others.0, others.1)) x a.2 in
    let judged =
    judged_taken (leb least) (λ n at. BadContext at) (place_in_file len bytes)
    (number_at w64 len bytes) a.0 a.1 in
    let first = number_took w64 len bytes a.0 judged.0 in
    let others = contexts_took len (a.0.0 + 1) count a.0.1 b.0 b.1 in
    let both = Took-then 8 (8 * count) bytes a.0.1 b.0.1 first others in
    let made : List ℕ × List ℕ = (a.0.0 ∷ b.0.0, b.0.1) in
    let so_many : 8 + 8 * count ≡ 8 * suc count = omega arith in
    subst (λ (y : List ℕ × List ℕ). Took (8 * suc count) bytes y.1) {x = made} (ok_is made x b.2)
    (subst (λ n. Took n bytes b.0.1) so_many both)

-- so many native ids are read
pub contexts_count : (len least count : ℕ) (bytes : List ℕ) (x : List ℕ × List ℕ)
    → row_at (id_at len) (λ least id. id + 1) count least bytes ≡ Ok x → length x.0 ≡ count
unfolding row_at
contexts_count len least zero bytes x e =
    sym (ap (λ (y : List ℕ × List ℕ). length y.0) (ok_is ([], bytes) x e))
contexts_count len least (suc count) bytes x e =
    let a =
    bind_ok (id_at len least bytes)
    (λ first. row_at (id_at len) (λ least id. id + 1) count (first.0 + 1) first.1 >>= λ others. Ok (first.0 ∷ others.0, others.1)) x e in
    let b =
    bind_ok (row_at (id_at len) (λ least id. id + 1) count (a.0.0 + 1) a.0.1)
    (λ others. Ok (a.0.0 ∷ others.0, others.1)) x a.2 in
    let made : List ℕ × List ℕ = (a.0.0 ∷ b.0.0, b.0.1) in
    subst (λ (y : List ℕ × List ℕ). length y.0 ≡ suc count) {x = made} (ok_is made x b.2)
    (ap suc (contexts_count len (a.0.0 + 1) count a.0.1 b.0 b.1))

-- what is known of the bounds of a segment that were read
pub record TookBounds (left : Left) (bytes : List ℕ) (start count : ℕ) (rest : List ℕ) : Type 0 where
  pub took : Took 16 bytes rest
  pub start_is : is_start left.0 start ≡ true

pub bounds_took : (len : ℕ) (left : Left) (bytes : List ℕ) (x : (ℕ × ℕ) × List ℕ)
    → bounds_at len left bytes ≡ Ok x → TookBounds left bytes x.0.0 x.0.1 x.1
bounds_took len left bytes x e =
    let a =
    bind_ok (start_at len left.0 bytes)
    (λ start. word_count_at len left.1 start.1 >>= λ count. Ok ((start.0, count.0), count.1)) x e in
    let b = bind_ok (word_count_at len left.1 a.0.1) (λ count. Ok ((a.0.0, count.0), count.1)) x a.2 in
    let start_judged =
    judged_taken (is_start left.0) (λ n at. SegmentOrder at) (place_in_file len bytes)
    (number_at w64 len bytes) a.0 a.1 in
    let count_judged =
    judged_taken (λ n. ltb 0 n && leb n left.1) (λ n at. cond (eqb n 0) (SegmentOrder at) (TooLarge n))
    (place_in_file len a.0.1) (number_at w64 len a.0.1) b.0 b.1 in
    let both =
    Took-then 8 8 bytes a.0.1 b.0.1 (number_took w64 len bytes a.0 start_judged.0)
    (number_took w64 len a.0.1 b.0 count_judged.0) in
    let made : (ℕ × ℕ) × List ℕ = ((a.0.0, b.0.0), b.0.1) in
    subst (λ (y : (ℕ × ℕ) × List ℕ). TookBounds left bytes y.0.0 y.0.1 y.1) {x = made} (ok_is made x b.2)
    (record { took = both; start_is = start_judged.1 })

-- the bounds, read one after the other
bounds_are : (len least room : ℕ) (bytes rest left : List ℕ) (start count : ℕ)
    → start_at len least bytes ≡ Ok (start, rest) → word_count_at len room rest ≡ Ok (count, left)
    → bounds_at len (least, room) bytes ≡ Ok ((start, count), left)
bounds_are len least room bytes rest left start count starts counts =
    bind_again (start_at len least bytes) (λ s. word_count_at len room s.1 >>= λ c. Ok ((s.0, c.0), c.1))
    (start, rest) starts
    ∙ bind_again (word_count_at len room rest) (λ c. Ok ((start, c.0), c.1)) (count, left) counts

-- the bounds, and what is known of them
pub record Bounds (len least room : ℕ) (bytes : List ℕ) (start count : ℕ) : Type 0 where
  pub are : bounds_at len (least, room) bytes ≡ Ok ((start, count), drop 16 bytes)
  pub long : 16 ≤ length bytes
  pub start_is : is_start least start ≡ true

pub bounds_of : (len least room : ℕ) (bytes rest left : List ℕ) (start count : ℕ)
    → start_at len least bytes ≡ Ok (start, rest) → word_count_at len room rest ≡ Ok (count, left)
    → Bounds len least room bytes start count
bounds_of len least room bytes rest left start count starts counts =
    let are = bounds_are len least room bytes rest left start count starts counts in
    let took = bounds_took len (least, room) bytes ((start, count), left) are in
    record {
      are = are ∙ ap (λ (l : List ℕ). Ok ((start, count), l)) took.took.left;
      long = took.took.long;
      start_is = took.start_is;
    }
