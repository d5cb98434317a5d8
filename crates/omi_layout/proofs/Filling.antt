-- A record is filled word by word.
use Rattle.std.proofs.Common.{◌≡◌, ◌==◌, ℕ, suc, ◌+◌, ◌*◌, ◌<◌, ◌≤◌, ◌||◌, not, Bool, true, false, List, [], ◌∷◌, ◌++◌, length, take, get_or, refl, sym, ap, subst, ◌∙◌, arith, eqb-true, if◌then◌else◌}
use Rattle.std.proofs.lemmas.Bool.Decides.{nat_tests}
use mir.Val.{bool_byte}
use Rattle.omi_numbers.specs.Words.{flag}
use Rattle.std.specs.Prelude.{IsTrue}
use Rattle.std.specs.List.{list_all}
use Rattle.std.proofs.lemmas.List.{take_more}
use Rattle.omi_word.specs.Memory.{IsWordOf, words_after}
use Rattle.omi_word.specs.declared.op.Op.TheVariants.{Store}
use Rattle.omi_layout.specs.Field.{kind_of}
use Rattle.omi_layout.specs.Named.{number}
use Rattle.omi_layout.specs.Table.{offset}
use Rattle.omi_layout.specs.Place.{fits, slot_address, IsSlot}
use Rattle.omi_layout.specs.Valid.{IsValid}
use Rattle.omi_layout.specs.Memory.{Rec, replace_at, memory_of, word_address, with_word, with_word_in, IsRecordWord}
use Rattle.omi_layout.specs.Frame.{IsOnWord}
use Rattle.omi_layout.specs.OpeningWords.{IsZero}
use Rattle.omi_layout.specs.Plan.{Entry, IsEntryOf, filled, IsFilled}
use Rattle.omi_layout.proofs.Arenas.{ends_inside, small, test_left, test_right}
use Rattle.omi_layout.proofs.Numbers.{numbered_field}
use Rattle.omi_layout.proofs.Turned.{kind_is}
use Rattle.omi_layout.proofs.Puts.{record_read, record_stays, put_other}
use Rattle.omi_layout.proofs.Stored.{on_word}

-- words stored after others
filled_more : (r : Rec) (xs : List Entry) (e : Entry)
    → filled r (xs ++ e ∷ []) ≡ with_word_in (filled r xs) (number e.0) e.1 e.2
filled_more r [] e = refl
filled_more r (x ∷ xs) e = filled_more (with_word_in r (number x.0) x.1 x.2) xs e

module _ (w : List ℕ) (v : IsValid w) where
  -- an entry lies near the beginning of its record
  pub entry_low : (kind : ℕ) (e : Entry) → IsEntryOf w kind e → offset w (number e.0) + e.1 < 4096
  entry_low kind e is =
      let room = ends_inside w (number e.0) (v.inside (number e.0) (numbered_field e.0)) in
      let few = small w v.inside (kind_of (number e.0)) (kind_is (number e.0)) in
      omega (arith, room, few, is.1)

  entry_word : (kind c : ℕ) (e : Entry) → IsSlot w kind c 0 → IsEntryOf w kind e
      → IsRecordWord w c 0 (number e.0) e.1
  entry_word kind c e slot is = record { field = numbered_field e.0; record_slot = subst (λ q. IsSlot w q c 0) (sym is.0) slot; within = is.1 }

  entry_address : (kind c base : ℕ) (e : Entry) → IsEntryOf w kind e → base ≡ slot_address w kind c 0
      → base + 8 * (offset w (number e.0) + e.1) ≡ word_address w c 0 (number e.0) e.1
  unfolding word_address
  entry_address kind c base e is at =
      ap (λ a. a + 8 * (offset w (number e.0) + e.1)) (at ∙ ap (λ q. slot_address w q c 0) (sym is.0))

  module _ (words : List ℕ) (kind c base : ℕ) (e : Entry) (fit : IsTrue (fits w (length words)))
      (slot : IsSlot w kind c 0) (is : IsEntryOf w kind e) (at : base ≡ slot_address w kind c 0) (address : ℕ)
      (there : address ≡ base + 8 * (offset w (number e.0) + e.1)) where
    on : IsOnWord w words (Store address e.2) c 0 (number e.0) e.1
    on =
        on_word w v words (Store address e.2) c 0 (number e.0) e.1 fit (entry_word kind c e slot is)
        (there ∙ entry_address kind c base e is at)

    pub entry_inside : IsWordOf words address
    entry_inside = on.inside

    leaves : memory_of w (words_after words (Store address e.2)) ≡ with_word (memory_of w words) c kind 0 (number e.0) e.1 e.2
    leaves = on.leaves ∙ ap (λ q. with_word (memory_of w words) c q 0 (number e.0) e.1 e.2) is.0

    -- one word more is stored
    pub filled_next : (old : List ℕ) (plan : List Entry) (i : ℕ) (d : Entry) → i < length plan
        → get_or plan i d ≡ e → IsFilled w old words c kind (take i plan)
        → IsFilled w old (words_after words (Store address e.2)) c kind (take (i + 1) plan)
    filled_next old plan i d within this before = record {
      here =
          ap (λ m. m c kind 0) leaves
          ∙ record_read (memory_of w words) c kind 0 (number e.0) e.1 e.2
          ∙ ap (λ (r : Rec). with_word_in r (number e.0) e.1 e.2) before.here
          ∙ sym (filled_more (memory_of w old c kind 0) (take i plan) e)
          ∙ ap (λ (es : List Entry). filled (memory_of w old c kind 0) es) (ap (λ (x : Entry). take i plan ++ x ∷ []) (sym this) ∙ sym (take_more plan i d within));
      keeps = record {
        others = λ c' k s ne. ap (λ m. m c' k s) leaves ∙ record_stays (memory_of w words) c kind 0 (number e.0) e.1 e.2 c' k s ne ∙ before.keeps.others c' k s ne;
        count = on.count ∙ before.keeps.count;
        front = λ j h. on.front j h ∙ before.keeps.front j h;
        gaps = λ j gap. on.gaps j gap ∙ before.keeps.gaps j gap;
      };
    }

pub flag_is : (b : Bool) → bool_byte b ≡ flag b
flag_is true = refl
flag_is false = refl

pub not_first : (i : ℕ) → 1 ≤ i → i == 0 ≡ false
not_first i h = grind (arith, nat_tests)

-- an entry of the first place of a field, or of another field
abbrev stores_first : ℕ → Entry → Bool
stores_first f e = (e.1 == 0) || not (f == number e.0)

one_later : (r : Rec) (e : Entry) (f at : ℕ) → stores_first f e ≡ true
    → with_word_in r (number e.0) e.1 e.2 f (suc at) ≡ r f (suc at)
one_later r e f at first = go (f == number e.0) refl (e.1 == 0) refl first
  where
    go : (b : Bool) → f == number e.0 ≡ b → (c : Bool) → e.1 == 0 ≡ c → (c || not b) ≡ true
        → (if b then replace_at (r (number e.0)) e.1 e.2 else r f) (suc at) ≡ r f (suc at)
    go false other c place first = refl
    go true same true place first =
        let here : f ≡ number e.0 = eqb-true f (number e.0) same in
        let begins : e.1 ≡ 0 = eqb-true e.1 0 place in
        put_other (r (number e.0)) e.1 (suc at) e.2 (λ is. omega (arith, is, begins)) ∙ ap (λ k. r k (suc at)) (sym here)
    go true same false place first = absurd (cc)

filled_later : (r : Rec) (plan : List Entry) (f at : ℕ) → list_all (stores_first f) plan ≡ true
    → filled r plan f (suc at) ≡ r f (suc at)
filled_later r [] f at first = refl
filled_later r (e ∷ es) f at first =
    filled_later (with_word_in r (number e.0) e.1 e.2) es f at (test_right _ _ first)
    ∙ one_later r e f at (test_left _ _ first)

-- behind the first place of a field, in which alone something was stored, all is 0
pub later_zero : {w old new : List ℕ} {creator kind : ℕ} {plan : List Entry} → IsFilled w old new creator kind plan
    → IsZero (memory_of w old creator kind 0) → (f at : ℕ) → list_all (stores_first f) plan ≡ true
    → memory_of w new creator kind 0 f (suc at) ≡ 0
later_zero {w} {old} {new} {creator} {kind} {plan} is zero f at first =
    ap (λ (r : Rec). r f (suc at)) is.here
    ∙ filled_later (memory_of w old creator kind 0) plan f at first
    ∙ zero f (suc at)

-- four elements are stored, and those behind stay
pub past_four : (m : ℕ → ℕ) (a b c d j : ℕ) → 4 ≤ j
    → replace_at (replace_at (replace_at (replace_at m 0 a) 1 b) 2 c) 3 d j ≡ m j
past_four m a b c d j h =
    put_other (replace_at (replace_at (replace_at m 0 a) 1 b) 2 c) 3 j d (λ e. omega (arith, h, e))
    ∙ put_other (replace_at (replace_at m 0 a) 1 b) 2 j c (λ e. omega (arith, h, e))
    ∙ put_other (replace_at m 0 a) 1 j b (λ e. omega (arith, h, e))
    ∙ put_other m 0 j a (λ e. omega (arith, h, e))
