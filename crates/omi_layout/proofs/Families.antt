-- Each family's layout is valid.
use Rattle.std.proofs.Common.{◌≡◌, ◌==◌, ℕ, ◌+◌, ◌*◌, ◌%◌, ◌≤◌, ◌&&◌, Bool, true, false, cond, not, nat_le, List, refl, ap, ap₂, ◌∙◌, arith, mul-le-mul}
use Rattle.std.proofs.lemmas.Bool.Decides.{nat_tests}
use Rattle.omi_layout.specs.declared.limits.TheConstants.{FRONT_WORDS, GROUP_VERSION, MOST_THREADS}
use Rattle.std.specs.Prelude.{IsTrue}
use Rattle.omi_word.specs.Memory.{place_of}
use Rattle.omi_word.proofs.Addresses.{place-address}
use Rattle.omi_layout.specs.Field.{IsKind, kind_of}
use Rattle.omi_layout.specs.Table.{thread_count, per_thread, offset, width, size, place, records, extent, slot_words}
use Rattle.omi_layout.specs.Place.{first_word, arena_end, arena_fits, fits, image_words}
use Rattle.omi_layout.specs.Valid.{IsValid, is_known, shares, is_counted, is_placed, is_arena, arenas_share}
use Rattle.omi_layout.specs.Family.{IsFamily, IsFamilyOf, field_words, family_size, family_extent, family_count}
use Rattle.omi_layout.proofs.Arenas.{each_kind}
use Rattle.omi_layout.proofs.Turned.{ends, turned_apart, apart_left, apart_right, kind_is}

both : (a b : Bool) → a ≡ true → b ≡ true → a && b ≡ true
both true b x y = y
both false b x y = absurd (cc)

le_test : (a b : ℕ) → a ≤ b → nat_le a b ≡ true
le_test a b h = grind (arith, nat_tests)

eq_test : (a b : ℕ) → a ≡ b → a == b ≡ true
eq_test a b h = grind (arith, nat_tests)

slots_few : (v : ℕ) → slot_words v ≤ 10
slots_few v = grind (arith, nat_tests)

words_few : (v t p : ℕ) → t ≤ 64 → field_words v t p ≤ 75
words_few v t p h = let last = slots_few v in grind (arith, nat_tests)

one_kind : (a b : ℕ) (s : Bool) → (a ≡ b → s ≡ false) → a == b && s ≡ false
one_kind a b s f = go (a == b) refl
  where
    go : (x : Bool) → a == b ≡ x → x && s ≡ false
    go true e = f (grind (arith, nat_tests))
    go false e = refl

-- the arenas, by kind where they stand and how long they are: one right after the other, from the lowest number on or from the greatest
record Row (b : Bool) (a e : ℕ → ℕ) : Type 0 where
  pub p1 : a 1 ≡ 65536 + 8 * (FRONT_WORDS + cond b 0 ((e 4 + e 3) + e 2))
  pub p2 : a 2 ≡ 65536 + 8 * (FRONT_WORDS + cond b (e 1) (e 4 + e 3))
  pub p3 : a 3 ≡ 65536 + 8 * (FRONT_WORDS + cond b (e 1 + e 2) (e 4))
  pub p4 : a 4 ≡ 65536 + 8 * (FRONT_WORDS + cond b ((e 1 + e 2) + e 3) 0)

-- no two of them share a word
abbrev Apart : (ℕ → ℕ) → (ℕ → ℕ) → ℕ → ℕ → Type 0
Apart a e q p = shares (a q) (8 * e q) (a p) (8 * e p) ≡ false

record AreApart (a e : ℕ → ℕ) : Type 0 where
  pub s12 : Apart a e 1 2
  pub s13 : Apart a e 1 3
  pub s23 : Apart a e 2 3
  pub s14 : Apart a e 1 4
  pub s24 : Apart a e 2 4
  pub s34 : Apart a e 3 4

row_apart : (b : Bool) (a e : ℕ → ℕ) → Row b a e → AreApart a e
row_apart true a e r = record {
  s12 = left 1 2 (omega (arith, r.p1, r.p2));
  s13 = left 1 3 (omega (arith, r.p1, r.p3));
  s23 = left 2 3 (omega (arith, r.p2, r.p3));
  s14 = left 1 4 (omega (arith, r.p1, r.p4));
  s24 = left 2 4 (omega (arith, r.p2, r.p4));
  s34 = left 3 4 (omega (arith, r.p3, r.p4));
}
  where
    left : (q p : ℕ) → a q + 8 * e q ≤ a p → Apart a e q p
    left q p before = apart_left (a q) (8 * e q) (a p) (8 * e p) before
row_apart false a e r = record {
  s12 = right 1 2 (omega (arith, r.p1, r.p2));
  s13 = right 1 3 (omega (arith, r.p1, r.p3));
  s23 = right 2 3 (omega (arith, r.p2, r.p3));
  s14 = right 1 4 (omega (arith, r.p1, r.p4));
  s24 = right 2 4 (omega (arith, r.p2, r.p4));
  s34 = right 3 4 (omega (arith, r.p3, r.p4));
}
  where
    right : (q p : ℕ) → a p + 8 * e p ≤ a q → Apart a e q p
    right q p before = apart_right (a q) (8 * e q) (a p) (8 * e p) before

-- where an arena stands and ends, if all are small
record Stands (a e : ℕ) : Type 0 where
  pub even : a % 8 ≡ 0
  pub low : 65536 ≤ a
  pub high : a + 8 * e ≤ 140737488355328

even_place : (x : ℕ) → (65536 + 8 * (FRONT_WORDS + x)) % 8 ≡ 0
even_place x = omega arith

stands : (a e x : ℕ) → a ≡ 65536 + 8 * (FRONT_WORDS + x) → x ≤ 8000000 → e ≤ 8000000 → Stands a e
stands a e x is h h' = record {
  even = ap (λ y. y % 8) is ∙ even_place x;
  low = omega (arith, is);
  high = omega (arith, is, h, h');
}

cond_few : (b : Bool) (x y n : ℕ) → x ≤ n → y ≤ n → cond b x y ≤ n
cond_few true x y n h h' = h
cond_few false x y n h h' = h'

extent_few : (c s : ℕ) → c ≤ 16384 → s ≤ 78 → c * s ≤ 1277952
extent_few c s h h' = mul-le-mul h h'

product_few : (c s m n : ℕ) → c ≤ m → s ≤ n → c * s ≤ m * n
product_few c s m n h h' = mul-le-mul h h'

module _ (v k t : ℕ) (w : List ℕ) (known : is_known v ≡ true) (some : 1 ≤ t) (most : t ≤ MOST_THREADS)
    (fam : IsFamilyOf v k t w) where
  -- the length of the arena of a kind
  abbrev long : ℕ → ℕ
  long p = family_extent v k t p

  -- whether the arenas stand from the lowest number on
  abbrev forward : Bool
  forward = k % 2 == 0

  size_few : (p : ℕ) → family_size v k t p ≤ 78
  size_few p = omega (arith, words_few v t p (omega (arith, most)))

  few : (p : ℕ) → IsKind p → long p ≤ 1277952
  few = each_kind (λ p. long p ≤ 1277952)
      (extent_few (family_count t 1) (family_size v k t 1) (omega arith) (size_few 1))
      (extent_few (family_count t 2) (family_size v k t 2) (omega (arith, most)) (size_few 2))
      (extent_few (family_count t 3) (family_size v k t 3) (omega (arith, most)) (size_few 3))
      (extent_few (family_count t 4) (family_size v k t 4) (omega (arith, most)) (size_few 4))

  k1 : IsKind 1
  k1 = record { from = omega arith; to = omega arith }

  k2 : IsKind 2
  k2 = record { from = omega arith; to = omega arith }

  k3 : IsKind 3
  k3 = record { from = omega arith; to = omega arith }

  k4 : IsKind 4
  k4 = record { from = omega arith; to = omega arith }

  row : Row forward (place w) long
  row = record {
    p1 = fam.places 1 k1;
    p2 = fam.places 2 k2;
    p3 = fam.places 3 k3;
    p4 = fam.places 4 k4;
  }

  all_apart : AreApart (place w) long
  all_apart = row_apart forward (place w) long row

  records_are : (p : ℕ) → IsKind p → records w p ≡ family_count t p
  records_are = each_kind (λ p. records w p ≡ family_count t p) refl
      (omega (arith, fam.threads))
      (ap₂ (λ a b. a * b) fam.threads fam.regions)
      (ap₂ (λ a b. a * b) fam.threads fam.tasks)

  extent_is : (p : ℕ) → IsKind p → extent w p ≡ long p
  extent_is p is = ap₂ (λ a b. a * b) (records_are p is) (fam.sizes p is)

  taken : (q p : ℕ) → IsKind q → IsKind p → Apart (place w) long q p → arenas_share w q p ≡ false
  taken q p is is' e =
      ap₂ (λ x y. shares (place w q) (8 * x) (place w p) (8 * y)) (extent_is q is) (extent_is p is') ∙ e

  arena_stands : (p x : ℕ) → IsKind p → place w p ≡ 65536 + 8 * (FRONT_WORDS + x) → x ≤ 8000000
      → is_placed w p ≡ true
  arena_stands p x is at low =
      let s = stands (place w p) (long p) x at low (omega (arith, few p is)) in
      let e = extent_is p is in
      let high = le_test (place w p + 8 * extent w p) 140737488355328 (omega (arith, s.high, e)) in
      both _ _ (eq_test _ _ s.even) (both _ _ (le_test _ _ s.low) high)

  -- what stands before an arena, either way
  before_few : (x y : ℕ) → x ≤ 8000000 → y ≤ 8000000 → cond forward x y ≤ 8000000
  before_few x y h h' = cond_few forward x y 8000000 h h'

  placed : (p : ℕ) → IsKind p → is_placed w p ≡ true
  placed =
      let f1 = few 1 k1 in
      let f2 = few 2 k2 in
      let f3 = few 3 k3 in
      let f4 = few 4 k4 in
      each_kind (λ p. is_placed w p ≡ true)
      (arena_stands 1 _ k1 row.p1 (before_few _ _ (omega arith) (omega (arith, f2, f3, f4))))
      (arena_stands 2 _ k2 row.p2 (before_few _ _ (omega (arith, f1)) (omega (arith, f3, f4))))
      (arena_stands 3 _ k3 row.p3 (before_few _ _ (omega (arith, f1, f2)) (omega (arith, f4))))
      (arena_stands 4 _ k4 row.p4 (before_few _ _ (omega (arith, f1, f2, f3)) (omega arith)))

  -- a number of the table from 1 to its bound
  in_range : (n most : ℕ) → 1 ≤ n → n ≤ most → nat_le 1 n && nat_le n most ≡ true
  in_range n most h h' = both _ _ (le_test 1 n h) (le_test n most h')

  counted : (p : ℕ) → IsKind p → is_counted w p ≡ true
  counted = each_kind (λ p. is_counted w p ≡ true) refl
      (in_range (thread_count w) MOST_THREADS
      (omega (arith, fam.threads, some)) (omega (arith, fam.threads, most)))
      (in_range (per_thread w 3) 64 (omega (arith, fam.regions)) (omega (arith, fam.regions)))
      (in_range (per_thread w 4) 4096 (omega (arith, fam.tasks)) (omega (arith, fam.tasks)))

  share : (q p : ℕ) → IsKind q → IsKind p → Apart (place w) long q p → not (arenas_share w q p) ≡ true
  share q p is is' e = ap not (taken q p is is' e)

  -- an arena that is counted and stands where it may, and shares no word with those before it
  one_arena : (p : ℕ) (is : IsKind p) (others : Bool) → others ≡ true
      → is_counted w p && (is_placed w p && others) ≡ true
  one_arena p is others apart = both _ _ (counted p is) (both _ _ (placed p is) apart)

  arenas : (p : ℕ) → IsKind p → is_arena w p ≡ true
  arenas =
      let s12 = share 1 2 k1 k2 all_apart.s12 in
      let s13 = share 1 3 k1 k3 all_apart.s13 in
      let s23 = share 2 3 k2 k3 all_apart.s23 in
      let s14 = share 1 4 k1 k4 all_apart.s14 in
      let s24 = share 2 4 k2 k4 all_apart.s24 in
      let s34 = share 3 4 k3 k4 all_apart.s34 in
      each_kind (λ p. is_arena w p ≡ true)
      (one_arena 1 k1 _ refl)
      (one_arena 2 k2 _ (both _ _ s12 refl))
      (one_arena 3 k3 _ (both _ _ s13 (both _ _ s23 refl)))
      (one_arena 4 k4 _ (both _ _ s14 (both _ _ s24 s34)))

  pub valid_of : IsValid w
  valid_of = record {
    words = fam.words;
    known = ap is_known fam.known ∙ known;
    inside = λ f is.
        let s = fam.sizes (kind_of f) (kind_is f) in
        let sized = le_test (size w (kind_of f)) 4096 (omega (arith, s, size_few (kind_of f))) in
        let within =
        le_test (offset w f + width w f) (size w (kind_of f)) (omega (arith, s, ends v k t w fam f is)) in
        both _ _ sized within;
    apart = λ f is g is' order. one_kind (kind_of f) (kind_of g) _ (turned_apart v k t w fam f g is is' order);
    arenas = arenas;
  }

  -- each arena lies behind the tables
  first_is : (p x : ℕ) → place w p ≡ 65536 + 8 * (FRONT_WORDS + x) → first_word w p ≡ FRONT_WORDS + x
  first_is p x at = ap place_of at ∙ place-address (FRONT_WORDS + x)

  -- and all of them end within the image
  all_few : long 1 + long 2 + long 3 + long 4 ≤ 1000000
  all_few =
      let one = product_few (family_count t 1) (family_size v k t 1) 1 78 (omega arith) (size_few 1) in
      let two = product_few (family_count t 2) (family_size v k t 2) 64 78 (omega (arith, most)) (size_few 2) in
      let three =
      product_few (family_count t 3) (family_size v k t 3) 1024 78 (omega (arith, most)) (size_few 3) in
      let four =
      product_few (family_count t 4) (family_size v k t 4) 16384 48 (omega (arith, most)) (omega (arith, slots_few v)) in
      omega (arith, one, two, three, four)

  end_is : (p x : ℕ) → IsKind p → place w p ≡ 65536 + 8 * (FRONT_WORDS + x) → arena_end w p ≡ FRONT_WORDS + x + long p
  end_is p x is at = omega (arith, first_is p x at, extent_is p is)

  arena_fit : (p x n : ℕ) → place w p ≡ 65536 + 8 * (FRONT_WORDS + x) → arena_end w p ≤ n
      → arena_fits w n p ≡ true
  arena_fit p x n at ends =
      both _ _ (le_test FRONT_WORDS (first_word w p) (omega (arith, first_is p x at))) (le_test (arena_end w p) n ends)

  pub fits_of : IsTrue (fits w (image_words w))
  fits_of =
      let fit1 = arena_fit 1 _ (image_words w) row.p1 (omega arith) in
      let fit2 = arena_fit 2 _ (image_words w) row.p2 (omega arith) in
      let fit3 = arena_fit 3 _ (image_words w) row.p3 (omega arith) in
      let fit4 = arena_fit 4 _ (image_words w) row.p4 (omega arith) in
      both _ _ (both _ _ fit1 fit2) (both _ _ fit3 fit4)

  pub small_of : image_words w ≤ 1048576
  small_of =
      let e1 = end_is 1 _ k1 row.p1 in
      let e2 = end_is 2 _ k2 row.p2 in
      let e3 = end_is 3 _ k3 row.p3 in
      let e4 = end_is 4 _ k4 row.p4 in
      let c1 = less 0 ((long 4 + long 3) + long 2) (long 2 + long 3 + long 4) (omega arith) (omega arith) in
      let c2 = less (long 1) (long 4 + long 3) (long 1 + long 3 + long 4) (omega arith) (omega arith) in
      let c3 = less (long 1 + long 2) (long 4) (long 1 + long 2 + long 4) (omega arith) (omega arith) in
      let c4 = less ((long 1 + long 2) + long 3) 0 (long 1 + long 2 + long 3) (omega arith) (omega arith) in
      omega (arith, all_few, e1, e2, e3, e4, c1, c2, c3, c4)
    where
      less : (x y n : ℕ) → x ≤ n → y ≤ n → cond forward x y ≤ n
      less x y n h h' = cond_few forward x y n h h'

-- so it is in the version with words for groups
module _ (k t : ℕ) (w : List ℕ) (some : 1 ≤ t) (most : t ≤ MOST_THREADS) (fam : IsFamily k t w) where
  pub family_valid : IsValid w
  family_valid = valid_of GROUP_VERSION k t w refl some most fam

  pub family_fits : IsTrue (fits w (image_words w))
  family_fits = fits_of GROUP_VERSION k t w refl some most fam

  pub family_small : image_words w ≤ 1048576
  family_small = small_of GROUP_VERSION k t w refl some most fam
