-- Each word of the records has a place of its own.
use Rattle.std.proofs.Common.{◌≡◌, ◌==◌, ℕ, ◌+◌, ◌*◌, ◌/◌, ◌%◌, ◌<◌, ◌≤◌, ◌&&◌, Bool, true, false, not, nat_lt, nat_le, List, refl, sym, ap, ◌∙◌, arith, leb-true, ltb-true}
use Rattle.std.proofs.lemmas.Bool.Decides.{nat_tests}
use Rattle.std.proofs.lemmas.Nat.{div-mul-add, mod-mul-add, mul-add-lt}
use Rattle.omi_layout.specs.declared.limits.TheConstants.{FRONT_WORDS}
use Rattle.omi_layout.specs.Field.{IsField, IsKind, kind_of}
use Rattle.omi_layout.specs.Table.{size, place, records, extent, offset, width}
use Rattle.omi_layout.specs.Place.{first_word, arena_end, arena_fits, fits, index_of, slot_address}
use Rattle.omi_layout.specs.Valid.{IsValid, shares, is_counted, is_placed, is_taken, arenas_share}
use Rattle.omi_layout.specs.Words.{IsWord, AreApart, AreInside, SlotsApart, AddressesApart, NoneIsNull}
use Rattle.omi_layout.proofs.Arenas.{each_kind, ends_inside, placed, positive, test_left, test_right}
use Rattle.omi_layout.proofs.Turned.{kind_is}

-- a quotient and a remainder are told by the number
pub rows_apart : (a b n r t : ℕ) → r < n → t < n → a * n + r ≡ b * n + t → (a ≡ b) × (r ≡ t)
rows_apart a b n r t x y e =
    (sym (div-mul-add a n r x) ∙ ap (λ z. z / n) e ∙ div-mul-add b n t y, sym (mod-mul-add a n r x) ∙ ap (λ z. z % n) e ∙ mod-mul-add b n t y)

-- two ranges that share nothing have no number in common
no_common : (a m b n x : ℕ) → shares a m b n ≡ false → a ≤ x → x < a + m → b ≤ x → x < b + n → ⊥
no_common a m b n x e h1 h2 h3 h4 = grind (arith, nat_tests)

not_true : (b : Bool) → not b ≡ true → b ≡ false
not_true false e = refl
not_true true e = absurd (cc)

same_test : (a b : ℕ) (s : Bool) → a ≡ b → a == b && s ≡ false → s ≡ false
same_test a b s same e = let yes : a == b ≡ true = grind (arith, nat_tests) in sym (ap (λ x. x && s) yes) ∙ e

first_part : (a b c d e : Bool) → a && (b && (c && (d && e))) ≡ true → c ≡ true
first_part a b c d e h =
    test_left c (d && e) (test_right b (c && (d && e)) (test_right a (b && (c && (d && e))) h))

second_part : (a b c d e : Bool) → a && (b && (c && (d && e))) ≡ true → d ≡ true
second_part a b c d e h =
    test_left d e
    (test_right c (d && e) (test_right b (c && (d && e)) (test_right a (b && (c && (d && e))) h)))

third_part : (a b c d e : Bool) → a && (b && (c && (d && e))) ≡ true → e ≡ true
third_part a b c d e h =
    test_right d e
    (test_right c (d && e) (test_right b (c && (d && e)) (test_right a (b && (c && (d && e))) h)))

even_test : (x : ℕ) (b : Bool) → x == 0 && b ≡ true → x ≡ 0
even_test x b e = let yes = test_left (x == 0) b e in grind (arith, nat_tests)

-- a word that two arenas have is of one arena
abbrev Meet : List ℕ → ℕ → ℕ → Type 0
Meet w q p = (x y : ℕ) → x < extent w q → y < extent w p → first_word w q + x ≡ first_word w p + y → q ≡ p

pub kind_1 : IsKind 1
kind_1 = record { from = omega arith; to = omega arith }

pub kind_2 : IsKind 2
kind_2 = record { from = omega arith; to = omega arith }

pub kind_3 : IsKind 3
kind_3 = record { from = omega arith; to = omega arith }

pub kind_4 : IsKind 4
kind_4 = record { from = omega arith; to = omega arith }

module _ (w : List ℕ) (v : IsValid w) where
  -- the word of a field lies in its record
  in_record : (f index at : ℕ) → IsWord w f index at → offset w f + at < size w (kind_of f)
  in_record f index at is = omega (arith, ends_inside w f (v.inside f is.field), is.within)

  -- and in its arena
  pub in_arena : (f index at : ℕ) → IsWord w f index at
      → index * size w (kind_of f) + (offset w f + at) < extent w (kind_of f)
  in_arena f index at is =
      let all =
      mul-add-lt index (size w (kind_of f)) (offset w f + at) (records w (kind_of f)) is.made
      (in_record f index at is) in
      omega (arith, all)

  -- an arena begins at a word
  pub aligned : (p : ℕ) → IsKind p → 65536 + 8 * first_word w p ≡ place w p
  aligned p is =
      let at = placed w p (v.arenas p is) in
      let even : place w p % 8 ≡ 0 = even_test (place w p % 8) _ at in
      let low : 65536 ≤ place w p = leb-true _ _ (test_left _ _ (test_right (place w p % 8 == 0) _ at)) in
      omega (arith, even, low)

  taken_12 : arenas_share w 1 2 ≡ false
  taken_12 =
      not_true _
      (first_part (is_counted w 2) (is_placed w 2) (not (is_taken w 1 2)) (not (is_taken w 2 2)) (not (is_taken w 3 2)) (v.arenas 2 (record { from = omega arith; to = omega arith })))

  taken_13 : arenas_share w 1 3 ≡ false
  taken_13 =
      not_true _
      (first_part (is_counted w 3) (is_placed w 3) (not (is_taken w 1 3)) (not (is_taken w 2 3)) (not (is_taken w 3 3)) (v.arenas 3 (record { from = omega arith; to = omega arith })))

  taken_23 : arenas_share w 2 3 ≡ false
  taken_23 =
      not_true _
      (second_part (is_counted w 3) (is_placed w 3) (not (is_taken w 1 3)) (not (is_taken w 2 3)) (not (is_taken w 3 3)) (v.arenas 3 (record { from = omega arith; to = omega arith })))

  taken_14 : arenas_share w 1 4 ≡ false
  taken_14 =
      not_true _
      (first_part (is_counted w 4) (is_placed w 4) (not (is_taken w 1 4)) (not (is_taken w 2 4)) (not (is_taken w 3 4)) (v.arenas 4 (record { from = omega arith; to = omega arith })))

  taken_24 : arenas_share w 2 4 ≡ false
  taken_24 =
      not_true _
      (second_part (is_counted w 4) (is_placed w 4) (not (is_taken w 1 4)) (not (is_taken w 2 4)) (not (is_taken w 3 4)) (v.arenas 4 (record { from = omega arith; to = omega arith })))

  taken_34 : arenas_share w 3 4 ≡ false
  taken_34 =
      not_true _
      (third_part (is_counted w 4) (is_placed w 4) (not (is_taken w 1 4)) (not (is_taken w 2 4)) (not (is_taken w 3 4)) (v.arenas 4 (record { from = omega arith; to = omega arith })))

  -- no word of the image is in two arenas
  apart : (q p : ℕ) → IsKind q → IsKind p → arenas_share w q p ≡ false → (x y : ℕ) → x < extent w q
      → y < extent w p → first_word w q + x ≡ first_word w p + y → ⊥
  apart q p is is' none x y h h' e =
      let one = aligned q is in
      let two = aligned p is' in
      no_common (place w q) (8 * extent w q) (place w p) (8 * extent w p)
      (65536 + 8 * (first_word w q + x)) none (omega (arith, one)) (omega (arith, one, h))
      (omega (arith, two, e)) (omega (arith, two, e, h'))

  one_arena : (q p : ℕ) → IsKind q → IsKind p → Meet w q p
  one_arena q p is is' =
      each_kind (λ q. (p : ℕ) → IsKind p → Meet w q p)
      (each_kind (Meet w 1) (λ x y h h' e. refl) (λ x y h h' e. absurd (apart 1 2 kind_1 kind_2 taken_12 x y h h' e)) (λ x y h h' e. absurd (apart 1 3 kind_1 kind_3 taken_13 x y h h' e)) (λ x y h h' e. absurd (apart 1 4 kind_1 kind_4 taken_14 x y h h' e)))
      (each_kind (Meet w 2) (λ x y h h' e. absurd (apart 1 2 kind_1 kind_2 taken_12 y x h' h (sym e))) (λ x y h h' e. refl) (λ x y h h' e. absurd (apart 2 3 kind_2 kind_3 taken_23 x y h h' e)) (λ x y h h' e. absurd (apart 2 4 kind_2 kind_4 taken_24 x y h h' e)))
      (each_kind (Meet w 3) (λ x y h h' e. absurd (apart 1 3 kind_1 kind_3 taken_13 y x h' h (sym e))) (λ x y h h' e. absurd (apart 2 3 kind_2 kind_3 taken_23 y x h' h (sym e))) (λ x y h h' e. refl) (λ x y h h' e. absurd (apart 3 4 kind_3 kind_4 taken_34 x y h h' e)))
      (each_kind (Meet w 4) (λ x y h h' e. absurd (apart 1 4 kind_1 kind_4 taken_14 y x h' h (sym e))) (λ x y h h' e. absurd (apart 2 4 kind_2 kind_4 taken_24 y x h' h (sym e))) (λ x y h h' e. absurd (apart 3 4 kind_3 kind_4 taken_34 y x h' h (sym e))) (λ x y h h' e. refl))
      q is p is'

  -- a number is in one field of a kind of record at most
  one_field : (f g x : ℕ) → IsField f → IsField g → kind_of f ≡ kind_of g → offset w f ≤ x
      → x < offset w f + width w f → offset w g ≤ x → x < offset w g + width w g → f ≡ g
  one_field f g x is is' same h1 h2 h3 h4 = go (nat_lt f g) refl (nat_lt g f) refl
    where
      go : (b : Bool) → nat_lt f g ≡ b → (d : Bool) → nat_lt g f ≡ d → f ≡ g
      go true e d e' =
          absurd
          (no_common (offset w f) (width w f) (offset w g) (width w g) x (same_test (kind_of f) (kind_of g) _ same (v.apart f is g is' (ltb-true f g e))) h1 h2 h3 h4)
      go false e true e' =
          absurd
          (no_common (offset w g) (width w g) (offset w f) (width w f) x (same_test (kind_of g) (kind_of f) _ (sym same) (v.apart g is' f is (ltb-true g f e'))) h3 h4 h1 h2)
      go false e false e' = grind (arith, nat_tests)

  pub are_apart : AreApart w
  are_apart f index at g other there is is' e =
      let kinds : kind_of f ≡ kind_of g =
      one_arena (kind_of f) (kind_of g) (kind_is f) (kind_is g) _ _ (in_arena f index at is)
      (in_arena g other there is') e in
      let firsts : first_word w (kind_of f) ≡ first_word w (kind_of g) = ap (first_word w) kinds in
      let sizes : size w (kind_of g) ≡ size w (kind_of f) = ap (size w) (sym kinds) in
      let small : offset w g + there < size w (kind_of f) =
      omega (arith, sizes, in_record g other there is') in
      let rest : index * size w (kind_of f) + (offset w f + at) ≡ other * size w (kind_of f) + (offset w g + there) =
      same_rest _ _ _ _ e firsts ∙ ap (λ s. other * s + (offset w g + there)) sizes in
      let r =
      rows_apart index other (size w (kind_of f)) (offset w f + at) (offset w g + there)
      (in_record f index at is) small rest in
      let fields : f ≡ g =
      one_field f g (offset w f + at) is.field is'.field kinds (omega arith) (omega (arith, is.within))
      (omega (arith, r.1)) (omega (arith, r.1, is'.within)) in
      let offsets : offset w f ≡ offset w g = ap (offset w) fields in
      record { field = fields; record_number = r.0; element = omega (arith, r.1, offsets) }
    where
      same_rest : (a b x y : ℕ) → a + x ≡ b + y → a ≡ b → x ≡ y
      same_rest a b x y e h = omega (arith, e, h)

  fits_each : (n : ℕ) → fits w n ≡ true → (p : ℕ) → IsKind p → arena_fits w n p ≡ true
  fits_each n e =
      each_kind (λ p. arena_fits w n p ≡ true) (test_left _ _ (test_left _ _ e))
      (test_right (arena_fits w n 1) _ (test_left _ _ e))
      (test_left _ _ (test_right (arena_fits w n 1 && arena_fits w n 2) _ e))
      (test_right _ _ (test_right (arena_fits w n 1 && arena_fits w n 2) _ e))

  pub are_inside : AreInside w
  are_inside n f index at e is =
      let arena = fits_each n e (kind_of f) (kind_is f) in
      let low : FRONT_WORDS ≤ first_word w (kind_of f) = leb-true _ _ (test_left _ _ arena) in
      let high : arena_end w (kind_of f) ≤ n =
      leb-true (arena_end w (kind_of f)) n
      (test_right (nat_le FRONT_WORDS (first_word w (kind_of f))) (nat_le (arena_end w (kind_of f)) n) arena) in
      let here = in_arena f index at is in
      record { behind = omega (arith, low); inside = omega (arith, high, here) }

  -- each arena ends in an image that the layout fits
  pub each_fits : (n : ℕ) → fits w n ≡ true → (p : ℕ) → IsKind p → arena_end w p ≤ n
  each_fits n e p is =
      leb-true (arena_end w p) n
      (test_right (nat_le FRONT_WORDS (first_word w p)) (nat_le (arena_end w p) n) (fits_each n e p is))

  -- an image that the layout fits has room for the tables
  pub front_fits : (n : ℕ) → fits w n ≡ true → FRONT_WORDS ≤ n
  front_fits n e =
      let low : FRONT_WORDS ≤ first_word w 1 = leb-true _ _ (test_left _ _ (fits_each n e 1 kind_1)) in
      omega (arith, low, each_fits n e 1 kind_1)

pub slots_apart : (w : List ℕ) → SlotsApart w
slots_apart w p creator slot other there is is' e =
    let r = rows_apart creator other _ slot there is.within is'.within e in
    record { maker = r.0; place = r.1 }

pub addresses_apart : (w : List ℕ) → IsValid w → AddressesApart w
unfolding slot_address
addresses_apart w v p creator slot other there kind is is' e =
    let some = positive w v.inside p kind in
    let rows : index_of w p creator slot * size w p + 0 ≡ index_of w p other there * size w p + 0 =
    omega (arith, e) in
    slots_apart w p creator slot other there is is'
    (rows_apart (index_of w p creator slot) (index_of w p other there) (size w p) 0 0 some some rows).0

pub none_is_null : (w : List ℕ) → IsValid w → NoneIsNull w
unfolding slot_address
none_is_null w v p creator slot kind =
    let low : 65536 ≤ place w p =
    leb-true _ _ (test_left _ _ (test_right (place w p % 8 == 0) _ (placed w p (v.arenas p kind)))) in
    omega (arith, low)
