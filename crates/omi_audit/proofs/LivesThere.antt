-- What is kept of what was met tells which records live: no region's record begins where a task's does, and each thread's life word was read.
use Rattle.std.proofs.Common.{◌≡◌, ◌==◌, inl, inr, ℕ, suc, ◌+◌, ◌*◌, ◌/◌, ◌<◌, ◌≤◌, not, Bool, true, false, cond, List, length, get_or, Option, Some, None, refl, sym, ap, ◌∙◌, arith, mul-le-mul}
use Rattle.std.specs.Prelude.{is_some}
use Rattle.std.specs.Option.{option_map_or, option_and_then}
use Rattle.std.proofs.Math.Nat.{suc-mul}
use Rattle.std.proofs.lemmas.Bool.Decides.{nat_tests}
use Rattle.std.proofs.lemmas.List.FromFn.{get_or-map-range_with_len}
use Rattle.omi_layout.specs.declared.field.Field.TheVariants.{ThreadLife}
use Rattle.omi_layout.specs.Field.{threads, regions, tasks}
use Rattle.omi_layout.specs.Named.{number}
use Rattle.omi_layout.specs.Place.{slot_address, record_address, index_of, IsSlot, IsRecordAt}
use Rattle.omi_layout.specs.Table.{size, place, records, extent}
use Rattle.omi_layout.specs.Valid.{IsValid, shares, arenas_share, is_taken, is_counted, is_placed}
use Rattle.omi_layout.proofs.Arenas.{test_right, index_within, positive}
use Rattle.omi_layout.proofs.Frame.{kind_3, kind_4}
use Rattle.omi_word.specs.Words.{Words}
use Rattle.omi_model.specs.declared.id.Id.{Id}
use Rattle.omi_rep.specs.Look.{slot_at, live_at, is_live}
use Rattle.omi_rep.specs.Records.{record_at, thread_address}
use Rattle.omi_rep.proofs.Slots.{slot_is, thread_slot}
use Rattle.omi_audit.specs.declared.search.Search.{Search}
use Rattle.omi_audit.specs.Judged.{lives, has_begun, Knows}
use Rattle.omi_audit.proofs.Reaches.{some_first}
use Rattle.omi_audit.proofs.FirstOnes.{or_cases}

-- ---- arenas

not_true : (b : Bool) → not b ≡ true → b ≡ false
not_true true is = sym is
not_true false is = refl

-- two ranges that have a number in common share it
shared : (a m b n x : ℕ) → a ≤ x → x < a + m → b ≤ x → x < b + n → shares a m b n ≡ true
shared a m b n x from to first last = grind (arith, nat_tests)

module _ (w : List ℕ) (valid : IsValid w) where
  no_share : arenas_share w 3 4 ≡ false
  no_share =
      let all = valid.arenas 4 kind_4 in
      let others = test_right (is_placed w 4) _ (test_right (is_counted w 4) _ all) in
      let third = test_right (not (is_taken w 2 4)) _ (test_right (not (is_taken w 1 4)) _ others) in
      not_true (arenas_share w 3 4) third

  -- a record lies in its arena
  in_arena : (p creator slot : ℕ) → 0 < size w p → IsSlot w p creator slot
      → (place w p ≤ slot_address w p creator slot) × (slot_address w p creator slot < place w p + 8 * extent w p)
  unfolding slot_address
  in_arena p creator slot some is =
      let within = index_within w p creator slot is in
      let low : suc (index_of w p creator slot) * size w p ≤ records w p * size w p =
      mul-le-mul (omega (arith, within)) (omega arith) in
      let next = suc-mul (index_of w p creator slot) (size w p) in
      (omega arith, omega (arith, low, next, some))

  -- no record of a region begins where one of a task does
  pub kinds_apart : (a : ℕ) (x y : ℕ × ℕ) → slot_at w regions a ≡ Some x → slot_at w tasks a ≡ Some y → ⊥
  kinds_apart a x y region task =
      let first = slot_is w regions a x region in
      let second = slot_is w tasks a y task in
      let one = in_arena regions x.0 x.1 (positive w valid.inside 3 kind_3) first.0 in
      let other = in_arena tasks y.0 y.1 (positive w valid.inside 4 kind_4) second.0 in
      let both : arenas_share w 3 4 ≡ true =
      shared (place w 3) (8 * extent w 3) (place w 4) (8 * extent w 4) a
      (omega (arith, one.0, first.1)) (omega (arith, one.1, first.1)) (omega (arith, other.0, second.1)) (omega (arith, other.1, second.1)) in
      let never : false ≡ true = sym no_share ∙ both in
      cc

  pub apart_some : (a : ℕ) → is_some (slot_at w regions a) ≡ true → is_some (slot_at w tasks a) ≡ true → ⊥
  apart_some a region task = go (slot_at w regions a) refl region (slot_at w tasks a) refl task
    where
      go : (o : Option (ℕ × ℕ)) → slot_at w regions a ≡ o → is_some o ≡ true → (q : Option (ℕ × ℕ))
          → slot_at w tasks a ≡ q → is_some q ≡ true → ⊥
      go None e is q f there = absurd (cc)
      go (Some x) e is None f there = absurd (cc)
      go (Some x) e is (Some y) f there = kinds_apart a x y e f

  -- what lives where a record of a kind begins is one of this kind
  pub region_lives : (words : Words) (a : ℕ) → is_some (slot_at w regions a) ≡ true
      → lives w words a ≡ true → is_some (live_at w words regions a) ≡ true
  region_lives words a place is =
      elim (or_cases (is_some (live_at w words regions a)) (is_some (live_at w words tasks a)) is) [
        | inl region ↦ region
        | inr task ↦ absurd (apart_some a place (some_first _ (slot_at w tasks a) task))
      ]

  pub task_lives : (words : Words) (a : ℕ) → is_some (slot_at w tasks a) ≡ true
      → lives w words a ≡ true → is_some (live_at w words tasks a) ≡ true
  task_lives words a place is =
      elim (or_cases (is_some (live_at w words regions a)) (is_some (live_at w words tasks a)) is) [
        | inl region ↦ absurd (apart_some a (some_first _ (slot_at w regions a) region) place)
        | inr task ↦ task
      ]

-- ---- threads

module _ (w : List ℕ) (words : Words) where
  abbrev life_at : ℕ → Option ℕ
  life_at a = record_at w words a (number ThreadLife) 0

  -- a thread lives where its life word is 1
  thread_at : (a i : ℕ) → slot_at w threads a ≡ Some (i, 0)
      → is_some (live_at w words threads a) ≡ (option_map_or (λ word. word) (life_at a) 0 == 1)
  thread_at a i slot = rw slot (go (life_at a))
    where
      one : (life : ℕ) (b : Bool) → is_some {T = Id} (cond b (Some (record { creator = i; slot = 0; generation = life / 2 })) None) ≡ b
      one life true = refl
      one life false = refl

      go : (o : Option ℕ)
          → is_some {T = Id} (option_and_then (λ life. cond (is_live threads life) (Some (record { creator = i; slot = 0; generation = life / 2 })) None) o)
          ≡ (option_map_or (λ word. word) o 0 == 1)
      go None = refl
      go (Some life) = one life (life == 1)

  pub thread_none : (a : ℕ) → IsRecordAt w threads a None → is_some (live_at w words threads a) ≡ false
  thread_none a is = let none = thread_slot w a None is in rw none refl

  pub thread_some : (a i : ℕ) → IsRecordAt w threads a (Some i)
      → is_some (live_at w words threads a) ≡ has_begun w words i
  unfolding slot_address
  thread_some a i is =
      let there : a ≡ thread_address w i =
      is.is.1 ∙ ap (record_address w threads) (let same : i ≡ i * 1 + 0 = omega arith in same) in
      thread_at a i (thread_slot w a (Some i) is) ∙ ap (λ b. option_map_or (λ word. word) (life_at b) 0 == 1) there

  pub begun_at : (s : Search) (i : ℕ) (d : Bool) → Knows w words s → i < length s.begun.items
      → get_or s.begun.items i d ≡ has_begun w words i
  begun_at s i d known within =
      ap (λ l. get_or l i d) known.begun
      ∙ get_or-map-range_with_len (has_begun w words) 0 (length s.begun.items) i i d within (omega arith)
