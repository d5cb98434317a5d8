-- A store into a word of a record, as a memory with one word replaced.
use Rattle.std.proofs.Common.{◌≡◌, ◌==◌, ℕ, ◌+◌, ◌*◌, ◌<◌, ◌≤◌, ◌&&◌, Bool, true, false, cond, List, length, get_or, set, nat_lt, refl, sym, ap, ap₂, ◌∙◌, subst, arith, get_or-set_same, get_or-set_other, length-set, eq-eqb, ne_eqb}
use Rattle.std.specs.Prelude.{IsTrue, Some}
use Rattle.std.proofs.lemmas.Bool.Decides.{nat_tests}
use Rattle.omi_word.specs.Memory.{address_at, place_of, IsWordOf, word_at, words_after, address_of, left_of}
use Rattle.omi_word.specs.declared.op.Op.{Op}
use Rattle.omi_word.specs.declared.op.Op.TheVariants.{Load, Store, Cas, Add, Sub}
use Rattle.omi_word.proofs.Addresses.{place-address, placed_word}
use Rattle.omi_layout.specs.declared.limits.TheConstants.{FIELDS, FRONT_WORDS}
use Rattle.omi_layout.specs.Field.{kind_of}
use Rattle.omi_layout.specs.Table.{size, place, offset, width, makers, per_thread}
use Rattle.omi_layout.specs.Place.{first_word, arena_end, fits, image_words, index_of, slot_address, IsSlot}
use Rattle.omi_layout.specs.Valid.{IsValid}
use Rattle.omi_layout.specs.Words.{word_place, IsWord}
use Rattle.omi_word.specs.Words.{words_of}
use Rattle.omi_layout.specs.Memory.{memory_of, with_word, is_record_word, IsRecordWord, word_address}
use Rattle.omi_layout.specs.Frame.{IsOnWord, IsLeft, word_in, replaced}
use Rattle.omi_layout.proofs.Arenas.{index_within, each_kind}
use Rattle.omi_layout.proofs.Turned.{kind_is}
use Rattle.omi_layout.proofs.Frame.{aligned, are_apart, are_inside, slots_apart, in_arena, front_fits, each_fits, kind_1, kind_2, kind_3, kind_4}
use Rattle.omi_layout.proofs.Mapped.{image_word}
use Rattle.omi_layout.proofs.Puts.{written, word_back}

-- a word of a record is one by its number in the arena
pub numbered : (w : List ℕ) (c s f k : ℕ) → IsRecordWord w c s f k → IsWord w f (index_of w (kind_of f) c s) k
numbered w c s f k is = record { field = is.field; made = index_within w (kind_of f) c s is.record_slot; within = is.within }

test_true : (w : List ℕ) (c s f k : ℕ) → IsRecordWord w c s f k → is_record_word w c (kind_of f) s f k ≡ true
test_true w c s f k is =
    let from = is.field.from in
    let to = is.field.to in
    let made = is.record_slot.made_by in
    let slot = is.record_slot.within in
    let within = is.within in
    go (kind_of f) (makers w (kind_of f)) (per_thread w (kind_of f)) (width w f) from to made slot within
  where
    go : (q m n x : ℕ) → 1 ≤ f → f ≤ FIELDS → c < m → s < n → k < x
        → (nat_lt 0 f && nat_lt f (FIELDS + 1)) && (q == q && (nat_lt c m && (nat_lt s n && nat_lt k x))) ≡ true
    go q m n x from to made slot within = grind (arith, nat_tests)

pub record Told (w : List ℕ) (c kind s f k : ℕ) : Type 0 where
  pub word : IsRecordWord w c s f k
  pub same : kind ≡ kind_of f

pub test_told : (w : List ℕ) (c kind s f k : ℕ) → is_record_word w c kind s f k ≡ true → Told w c kind s f k
test_told w c kind s f k e =
    go (kind_of f) (makers w (kind_of f)) (per_thread w (kind_of f)) (width w f) refl refl refl refl e
  where
    go : (q m n x : ℕ) → kind_of f ≡ q → makers w (kind_of f) ≡ m → per_thread w (kind_of f) ≡ n
        → width w f ≡ x
        → (nat_lt 0 f && nat_lt f (FIELDS + 1)) && (kind == q && (nat_lt c m && (nat_lt s n && nat_lt k x))) ≡ true → Told w c kind s f k
    go q m n x eq em en ex e = record {
      word = record {
        field = record { from = grind (arith, nat_tests); to = grind (arith, nat_tests) };
        record_slot = record { made_by = grind (arith, nat_tests); within = grind (arith, nat_tests) };
        within = grind (arith, nat_tests);
      };
      same = grind (arith, nat_tests);
    }

module _ (w : List ℕ) (v : IsValid w) where
  -- the address of a word of a record is that of its place
  pub address_placed : (c s f k : ℕ)
      → word_address w c s f k ≡ address_at (word_place w f (index_of w (kind_of f) c s) k)
  unfolding word_address slot_address
  address_placed c s f k =
      sums (place w (kind_of f)) (first_word w (kind_of f)) (index_of w (kind_of f) c s * size w (kind_of f))
      (offset w f + k) (aligned w v (kind_of f) (kind_is f))
    where
      sums : (a b x y : ℕ) → 65536 + 8 * b ≡ a → (a + 8 * x) + 8 * y ≡ 65536 + 8 * (b + (x + y))
      sums a b x y e = omega (arith, e)

  -- and this is in an image that the layout fits
  pub place_inside : (words : List ℕ) (c s f k : ℕ) → IsTrue (fits w (length words)) → IsRecordWord w c s f k
      → word_place w f (index_of w (kind_of f) c s) k < length words
  place_inside words c s f k fit is =
      (are_inside w v (length words) f (index_of w (kind_of f) c s) k fit (numbered w c s f k is)).inside

  -- what the memory has at a word of a record
  pub memory_read : (words : List ℕ) (c s f k : ℕ) → IsRecordWord w c s f k
      → memory_of w words c (kind_of f) s f k ≡ get_or words (word_place w f (index_of w (kind_of f) c s) k) 0
  unfolding memory_of
  memory_read words c s f k is =
      ap (λ b. cond b (get_or words (word_place w f (index_of w (kind_of f) c s) k) 0) 0)
      (test_true w c s f k is)

  -- the frame: every other word stays
  read_other : (words : List ℕ) (c s f k x d kind t g h : ℕ) → IsRecordWord w c s f k
      → (d ≡ c → kind ≡ kind_of f → t ≡ s → g ≡ f → h ≡ k → ⊥)
      → memory_of w (set words (word_place w f (index_of w (kind_of f) c s) k) x) d kind t g h ≡ memory_of w words d kind t g h
  unfolding memory_of
  read_other words c s f k x d kind t g h is apart = go (is_record_word w d kind t g h) refl
    where
      differ : is_record_word w d kind t g h ≡ true
          → word_place w g (index_of w (kind_of g) d t) h ≡ word_place w f (index_of w (kind_of f) c s) k → ⊥
      differ e same =
          let told = test_told w d kind t g h e in
          let all =
          are_apart w v g (index_of w (kind_of g) d t) h f (index_of w (kind_of f) c s) k
          (numbered w d t g h told.word) (numbered w c s f k is) same in
          let kinds : kind_of g ≡ kind_of f = ap kind_of all.field in
          let index : index_of w (kind_of f) d t ≡ index_of w (kind_of f) c s =
          sym (ap (λ q. index_of w q d t) kinds) ∙ all.record_number in
          let there = subst (λ q. IsSlot w q d t) kinds told.word.record_slot in
          let slots = slots_apart w (kind_of f) d t c s there is.record_slot index in
          apart slots.maker (told.same ∙ kinds) slots.place all.field all.element

      go : (b : Bool) → is_record_word w d kind t g h ≡ b
          → cond b
          (get_or (set words (word_place w f (index_of w (kind_of f) c s) k) x) (word_place w g (index_of w (kind_of g) d t) h) 0) 0
          ≡ cond b (get_or words (word_place w g (index_of w (kind_of g) d t) h) 0) 0
      go false e = refl
      go true e =
          get_or-set_other words (word_place w f (index_of w (kind_of f) c s) k)
          (word_place w g (index_of w (kind_of g) d t) h) x 0 (differ e)

  -- a store
  memory_stored : (words : List ℕ) (c s f k x : ℕ) → IsTrue (fits w (length words)) → IsRecordWord w c s f k
      → memory_of w (set words (word_place w f (index_of w (kind_of f) c s) k) x) ≡ with_word (memory_of w words) c (kind_of f) s f k x
  memory_stored words c s f k x fit is =
      written (memory_of w words)
      (memory_of w (set words (word_place w f (index_of w (kind_of f) c s) k) x)) c (kind_of f) s f k x
      (memory_read (set words (word_place w f (index_of w (kind_of f) c s) k) x) c s f k is ∙ get_or-set_same words _ x 0 (place_inside words c s f k fit is))
      (λ d kind t g h ne. read_other words c s f k x d kind t g h is ne)

  -- an operation on a word of a record
  pub on_word : (words : List ℕ) (op : Op) (c s f k : ℕ) → IsTrue (fits w (length words))
      → IsRecordWord w c s f k
      → address_of op ≡ word_address w c s f k → IsOnWord w words op c s f k
  on_word words op c s f k fit is at = record {
    inside = subst (IsWordOf words) (sym address) (placed_word words here (place_inside words c s f k fit is));
    finds = finds;
    leaves = ap₂ (λ p x. memory_of w (set words p x)) placed (ap (left_of op) finds)
        ∙ memory_stored words c s f k (left_of op (memory_of w words c (kind_of f) s f k)) fit is;
    count = length-set words (place_of (address_of op)) (left_of op (word_at words (address_of op)));
    gaps = λ i gap. get_or-set_other words (place_of (address_of op)) i (left_of op (word_at words (address_of op))) 0 (λ same. gap.free f (index_of w (kind_of f) c s) k (numbered w c s f k is) (sym placed ∙ sym same));
    front = λ i before. get_or-set_other words (place_of (address_of op)) i (left_of op (word_at words (address_of op))) 0 (λ same. omega (arith, placed, same, before, behind));
  }
    where
      here : ℕ
      here = word_place w f (index_of w (kind_of f) c s) k

      address : address_of op ≡ address_at here
      address = at ∙ address_placed c s f k

      placed : place_of (address_of op) ≡ here
      placed = ap place_of address ∙ place-address here

      finds : word_at words (address_of op) ≡ memory_of w words c (kind_of f) s f k
      finds = ap (λ p. get_or words p 0) placed ∙ sym (memory_read words c s f k is)

      behind : FRONT_WORDS ≤ here
      behind =
          (are_inside w v (length words) f (index_of w (kind_of f) c s) k fit (numbered w c s f k is)).behind

  -- what each operation leaves
  pub left : (words : List ℕ) (c s f k : ℕ) → IsTrue (fits w (length words)) → IsRecordWord w c s f k
      → IsLeft w words c s f k (word_address w c s f k)
  left words c s f k fit is = record {
    load = by (Load a) refl ∙ same;
    store = λ new. by (Store a new) refl;
    exchanged = λ new. by (Cas a here new) refl ∙ ap (replaced w words c s f k) (ap (λ b. cond b new here) (eq-eqb here here refl));
    refused = λ old new ne. by (Cas a old new) refl ∙ ap (replaced w words c s f k) (ap (λ b. cond b new here) (ne_eqb here old ne)) ∙ same;
    added = λ n. by (Add a n) refl;
    subtracted = λ n. by (Sub a n) refl;
  }
    where
      a : ℕ
      a = word_address w c s f k

      here : ℕ
      here = word_in w words c s f k

      by : (op : Op) → address_of op ≡ a
          → memory_of w (words_after words op) ≡ replaced w words c s f k (left_of op here)
      by op at = (on_word words op c s f k fit is at).leaves

      same : replaced w words c s f k here ≡ memory_of w words
      same = word_back (memory_of w words) c (kind_of f) s f k

  -- the place of a word of a record is in an image that has the words of the layout
  place_held : (words : List ℕ) (c s f k : ℕ) → image_words w ≤ length words → IsRecordWord w c s f k
      → word_place w f (index_of w (kind_of f) c s) k < length words
  place_held words c s f k long is =
      let last : arena_end w (kind_of f) ≤ image_words w =
      each_kind (λ p. arena_end w p ≤ image_words w) (omega arith) (omega arith) (omega arith) (omega arith)
      (kind_of f) (kind_is f) in
      let here = in_arena w v f (index_of w (kind_of f) c s) k (numbered w c s f k is) in
      omega (arith, last, here, long)

  -- so it is mapped
  pub mapped : (words : List ℕ) (c s f k : ℕ) → image_words w ≤ length words → IsRecordWord w c s f k
      → words_of words (word_address w c s f k) ≡ Some (memory_of w words c (kind_of f) s f k)
  mapped words c s f k long is =
      ap (words_of words) (address_placed c s f k)
      ∙ image_word words here (place_held words c s f k long is)
      ∙ ap Some (sym (memory_read words c s f k is))
    where
      here : ℕ
      here = word_place w f (index_of w (kind_of f) c s) k

  -- an image that the layout fits has the words of the layout
  pub fitted : (n : ℕ) → IsTrue (fits w n) → image_words w ≤ n
  fitted n fit =
      let ends = each_fits w v n fit in
      omega (arith, front_fits w v n fit, ends 1 kind_1, ends 2 kind_2, ends 3 kind_3, ends 4 kind_4)
