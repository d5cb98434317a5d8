-- The words that segments have, and that segments with gaps between them are known by their words.
use Rattle.std.proofs.Common.{◌≡◌, ℕ, zero, suc, ◌+◌, ◌*◌, ◌<◌, ◌≤◌, ◌⊎◌, List, [], ◌∷◌, length, get_or, Some, refl, sym, ap, subst, ◌∙◌, inl, inr, arith}
use Rattle.std.specs.Prelude.{IsTrue, slice_get, ◌&&◌, ◌==◌, nat_lt, nat_le, ◌%◌}
use Rattle.std.proofs.lemmas.Bool.{and_parts, ltb-true, leb-true, cases_lt}
use Rattle.std.proofs.lemmas.List.{ext_get_or}
use Rattle.std.proofs.lemmas.Option.{slice_get_within, slice_get-get_or, get_or_from_slice_get}
use Rattle.omi_corefile.specs.declared.segment.Segment.{Segment}
use Rattle.omi_corefile.specs.Limits.{is_start, are_words, rise_apart_from, end_of}
use Rattle.omi_word.specs.declared.limits.TheConstants.{MEMORY_END}
use Rattle.omi_elf.specs.Segments.{IsWordAt}

-- a segment has the word at the address
pub record WordIn (s : Segment) (address word : ℕ) : Type 0 where
  pub index : ℕ
  pub address_is : address ≡ s.start + 8 * index
  pub word_is : slice_get s.words index ≡ Some word

-- some of these have
abbrev pub AnyWord : List Segment → ℕ → ℕ → Type 0
AnyWord [] address word = ⊥
AnyWord (s ∷ ss) address word = WordIn s address word ⊎ AnyWord ss address word

-- the same, by the place of the segment in the list
pub any_from_at : (ss : List Segment) (k : ℕ) (s : Segment) (address word : ℕ) → slice_get ss k ≡ Some s
    → WordIn s address word → AnyWord ss address word
any_from_at [] k s address word e h = absurd cc
any_from_at (x ∷ ss) zero s address word e h =
    let same : x ≡ s = cc in inl (subst (λ (t : Segment). WordIn t address word) (sym same) h)
any_from_at (x ∷ ss) (suc k) s address word e h = inr (any_from_at ss k s address word e h)

pub record At (ss : List Segment) (address word : ℕ) : Type 0 where
  pub place : ℕ
  pub segment : Segment
  pub there : slice_get ss place ≡ Some segment
  pub has : WordIn segment address word

pub at_from_any : (ss : List Segment) (address word : ℕ) → AnyWord ss address word → At ss address word
at_from_any [] address word h = absurd h
at_from_any (x ∷ ss) address word (inl h) = record { place = 0; segment = x; there = refl; has = h }
at_from_any (x ∷ ss) address word (inr h) =
    let a = at_from_any ss address word h in
    record { place = suc a.place; segment = a.segment; there = a.there; has = a.has }

pub any_from_word : (ss : List Segment) (address word : ℕ) → IsWordAt ss address word → AnyWord ss address word
any_from_word ss address word h =
    let k = h.among.0 in
    any_from_at ss k h.segment address word
    (slice_get-get_or ss k h.segment h.among.1 ∙ ap (λ (s : Segment). Some s) h.among.2)
    (record { index = h.index; address_is = h.address_is; word_is = h.word_is })

pub word_from_any : (ss : List Segment) (address word : ℕ) → AnyWord ss address word → IsWordAt ss address word
word_from_any ss address word h =
    let a = at_from_any ss address word h in
    record {
      segment = a.segment;
      among = (a.place, slice_get_within ss a.place a.segment a.there, get_or_from_slice_get ss a.place a.segment a.segment a.there);
      index = a.has.index;
      address_is = a.has.address_is;
      word_is = a.has.word_is;
    }

-- ---- segments with gaps

pub record Front (least : ℕ) (s : Segment) (ss : List Segment) : Type 0 where
  pub from : least ≤ s.start
  pub some : 0 < length s.words
  pub rest : IsTrue (rise_apart_from (end_of s.start (length s.words) + 1) ss)

pub front_of : (least : ℕ) (s : Segment) (ss : List Segment) → IsTrue (rise_apart_from least (s ∷ ss))
    → Front least s ss
front_of least s ss h =
    let a = and_parts (is_start least s.start && nat_lt 0 (length s.words) && are_words s.words) (rise_apart_from (end_of s.start (length s.words) + 1) ss) h in
    let b = and_parts (is_start least s.start && nat_lt 0 (length s.words)) (are_words s.words) a.0 in
    let c = and_parts (is_start least s.start) (nat_lt 0 (length s.words)) b.0 in
    let d = and_parts (s.start % 8 == 0 && nat_le least s.start) (nat_lt s.start MEMORY_END) c.0 in
    let e = and_parts (s.start % 8 == 0) (nat_le least s.start) d.0 in
    record { from = leb-true least s.start e.1; some = ltb-true 0 (length s.words) c.1; rest = a.1 }

-- no word stands below the least start
pub none_below : (least : ℕ) (ss : List Segment) (address word : ℕ) → IsTrue (rise_apart_from least ss)
    → AnyWord ss address word → least ≤ address
none_below least [] address word r h = absurd h
none_below least (s ∷ ss) address word r (inl h) =
    let f = front_of least s ss r in omega (arith, f.from, h.address_is)
none_below least (s ∷ ss) address word r (inr h) =
    let f = front_of least s ss r in
    let up = none_below (end_of s.start (length s.words) + 1) ss address word f.rest h in
    omega (arith, f.from, up)

-- a word of the first segment stands within it, and each other one behind its end
pub inside : (s : Segment) (address word : ℕ) → WordIn s address word → address < s.start + 8 * length s.words
inside s address word h =
    let lt = slice_get_within s.words h.index word h.word_is in omega (arith, lt, h.address_is)

pub in_first : (least : ℕ) (s : Segment) (ss : List Segment) (address word : ℕ)
    → IsTrue (rise_apart_from least (s ∷ ss)) → address ≤ s.start + 8 * length s.words
    → AnyWord (s ∷ ss) address word → WordIn s address word
in_first least s ss address word r le (inl h) = h
in_first least s ss address word r le (inr h) =
    let f = front_of least s ss r in
    let up = none_below (end_of s.start (length s.words) + 1) ss address word f.rest h in
    absurd (omega (arith, up, le))

pub in_rest : (least : ℕ) (s : Segment) (ss : List Segment) (address word : ℕ)
    → s.start + 8 * length s.words ≤ address → AnyWord (s ∷ ss) address word → AnyWord ss address word
in_rest least s ss address word le (inl h) = absurd (let lt = inside s address word h in omega (arith, lt, le))
in_rest least s ss address word le (inr h) = h

-- the word at a place of a segment
pub word_at_place : (s : Segment) (k : ℕ) → k < length s.words → WordIn s (s.start + 8 * k) (get_or s.words k 0)
word_at_place s k lt = record { index = k; address_is = refl; word_is = slice_get-get_or s.words k 0 lt }

-- two lists have the same words
abbrev pub SameWords : List Segment → List Segment → Type 0
SameWords ss ts = (address word : ℕ) → (AnyWord ss address word → AnyWord ts address word) × (AnyWord ts address word → AnyWord ss address word)

-- its own start will do for the least
pub none_below_start : (m : ℕ) (t : Segment) (ts : List Segment) (address word : ℕ)
    → IsTrue (rise_apart_from m (t ∷ ts)) → AnyWord (t ∷ ts) address word → t.start ≤ address
none_below_start m t ts address word q (inl h) = omega (arith, h.address_is)
none_below_start m t ts address word q (inr h) =
    let g = front_of m t ts q in
    let up = none_below (end_of t.start (length t.words) + 1) ts address word g.rest h in
    omega (arith, up)

starts_below : (l m : ℕ) (s : Segment) (ss : List Segment) (t : Segment) (ts : List Segment)
    → IsTrue (rise_apart_from l (s ∷ ss)) → IsTrue (rise_apart_from m (t ∷ ts))
    → ((address word : ℕ) → AnyWord (s ∷ ss) address word → AnyWord (t ∷ ts) address word) → t.start ≤ s.start
starts_below l m s ss t ts r q h =
    let f = front_of l s ss r in
    let w = word_at_place s 0 f.some in
    let there = h (s.start + 8 * 0) (get_or s.words 0 0) (inl w) in
    let low = none_below_start m t ts (s.start + 8 * 0) (get_or s.words 0 0) q there in
    omega (arith, low)

no_longer : (l m : ℕ) (s : Segment) (ss : List Segment) (t : Segment) (ts : List Segment)
    → IsTrue (rise_apart_from l (s ∷ ss)) → IsTrue (rise_apart_from m (t ∷ ts)) → s.start ≡ t.start
    → ((address word : ℕ) → AnyWord (s ∷ ss) address word → AnyWord (t ∷ ts) address word)
    → length s.words ≤ length t.words
no_longer l m s ss t ts r q e h =
    elim (cases_lt (length t.words) (length s.words)) [
      | inl lt ↦
          let address : ℕ = s.start + 8 * length t.words in
          let there = h address (get_or s.words (length t.words) 0) (inl (word_at_place s (length t.words) lt)) in
          let mine = in_first m t ts address (get_or s.words (length t.words) 0) q (omega (arith, e)) there in
          let low = inside t address (get_or s.words (length t.words) 0) mine in
          absurd (omega (arith, low, e))
      | inr le ↦ le
    ]

same_word : (l m : ℕ) (s : Segment) (ss : List Segment) (t : Segment) (ts : List Segment) (k : ℕ)
    → IsTrue (rise_apart_from m (t ∷ ts)) → s.start ≡ t.start → length s.words ≡ length t.words
    → ((address word : ℕ) → AnyWord (s ∷ ss) address word → AnyWord (t ∷ ts) address word)
    → k < length s.words → get_or s.words k 0 ≡ get_or t.words k 0
same_word l m s ss t ts k q e len h lt =
    let address : ℕ = s.start + 8 * k in
    let there = h address (get_or s.words k 0) (inl (word_at_place s k lt)) in
    let mine = in_first m t ts address (get_or s.words k 0) q (omega (arith, e, len, lt)) there in
    let place : mine.index ≡ k = omega (arith, mine.address_is, e) in
    let is : slice_get t.words k ≡ Some (get_or s.words k 0) = rw place at mine.word_is in
    sym (get_or_from_slice_get t.words k (get_or s.words k 0) 0 is)

abbrev pub made : ℕ → List ℕ → Segment
made start words = record { start = start; words = words }

pub one_by_words : (l m : ℕ) (ss ts : List Segment) → IsTrue (rise_apart_from l ss)
    → IsTrue (rise_apart_from m ts) → SameWords ss ts → ss ≡ ts
one_by_words l m [] [] r q h = refl
one_by_words l m [] (t ∷ ts) r q h =
    let g = front_of m t ts q in absurd ((h (t.start + 8 * 0) (get_or t.words 0 0)).1 (inl (word_at_place t 0 g.some)))
one_by_words l m (s ∷ ss) [] r q h =
    let f = front_of l s ss r in absurd ((h (s.start + 8 * 0) (get_or s.words 0 0)).0 (inl (word_at_place s 0 f.some)))
one_by_words l m (s ∷ ss) (t ∷ ts) r q h =
    let there = λ (a w : ℕ). (h a w).0 in
    let back = λ (a w : ℕ). (h a w).1 in
    let start : s.start ≡ t.start =
    omega (arith, starts_below l m s ss t ts r q there, starts_below m l t ts s ss q r back) in
    let len : length s.words ≡ length t.words =
    omega (arith, no_longer l m s ss t ts r q start there, no_longer m l t ts s ss q r (sym start) back) in
    let words : s.words ≡ t.words =
    ext_get_or 0 s.words t.words len (λ k lt. same_word l m s ss t ts k q start len there lt) in
    let f = front_of l s ss r in
    let g = front_of m t ts q in
    let rest : ss ≡ ts =
    one_by_words (end_of s.start (length s.words) + 1) (end_of t.start (length t.words) + 1) ss ts f.rest g.rest
    (λ a w. (
      λ p. in_rest m t ts a w (omega (arith, none_below (end_of s.start (length s.words) + 1) ss a w f.rest p, start, len)) (there a w (inr p)),
      λ p. in_rest l s ss a w (omega (arith, none_below (end_of t.start (length t.words) + 1) ts a w g.rest p, start, len)) (back a w (inr p)),
    )) in
    let head : s ≡ t = ap (λ (n : ℕ). made n s.words) start ∙ ap (λ (ws : List ℕ). made t.start ws) words in
    ap (λ (x : Segment). x ∷ ss) head ∙ ap (λ (xs : List Segment). t ∷ xs) rest
