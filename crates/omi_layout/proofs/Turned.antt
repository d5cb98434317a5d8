-- The fields of a family's records, turned, are inside their records and apart.
use Rattle.std.proofs.Common.{◌≡◌, ◌≢◌, ◌==◌, ℕ, ◌+◌, ◌-◌, ◌%◌, ◌<◌, ◌≤◌, Bool, true, false, nat_le, List, refl, sym, ap, subst, ◌∙◌, arith, leb-true}
use Rattle.std.proofs.lemmas.Bool.Decides.{nat_tests}
use Rattle.omi_layout.specs.Field.{IsField, IsKind, kind_of, nth, slots, tasks}
use Rattle.omi_layout.specs.Table.{offset, thread_count, version, width}
use Rattle.omi_layout.specs.Valid.{shares}
use Rattle.omi_layout.specs.Family.{IsFamilyOf, first_field, field_words, words_before, turned_first, family_offset, field_count}
use Rattle.omi_layout.proofs.Arenas.{each_kind}

before_plain : (f : ℕ) → IsField f → f < slots → words_before f + first_field (kind_of f) ≡ f
before_plain f is h = let from = is.from in grind (arith, nat_tests)

width_plain : (w : List ℕ) (f : ℕ) → f ≢ 6 → f ≢ 24 → f ≢ nth → f ≢ slots → width w f ≡ 1
width_plain w f a b c d = grind (arith, nat_tests)

not_locks : (f g : ℕ) → f < g → kind_of f ≡ kind_of g → f ≢ 6
not_locks f g h same is = let one : kind_of f ≡ 1 = ap kind_of is in grind (arith, nat_tests)

not_team : (f g : ℕ) → f < g → kind_of f ≡ kind_of g → f ≢ 24
not_team f g h same is = let one : kind_of f ≡ 3 = ap kind_of is in grind (arith, nat_tests)

kind_last : (f : ℕ) → f ≡ slots → kind_of f ≡ 4
kind_last f is = ap kind_of is

-- a field's words end before those of a later field of its record
pub in_order : (w : List ℕ) (f g : ℕ) → IsField f → IsField g → f < g → kind_of f ≡ kind_of g
    → words_before f + width w f ≤ words_before g
in_order w f g is is' h same = by (g == slots) refl (f == nth) refl
  where
    by : (b : Bool) → g == slots ≡ b → (d : Bool) → f == nth ≡ d → words_before f + width w f ≤ words_before g
    by true e true e' =
        let a : g ≡ slots = grind (arith, nat_tests) in let b : f ≡ nth = grind (arith, nat_tests) in rw (a, b) (omega arith)
    by true e false e' =
        let a : g ≡ slots = grind (arith, nat_tests) in
        let b : f ≢ nth = grind (arith, nat_tests) in
        let one = width_plain w f (not_locks f g h same) (not_team f g h same) b (omega (arith, a, h)) in
        let four : kind_of f ≡ 4 = same ∙ kind_last g a in
        let mine = before_plain f is (omega (arith, a, h)) in
        let first : first_field (kind_of f) ≡ 25 = ap first_field four in
        let last : words_before g ≡ words_before slots = ap words_before a in
        omega (arith, one, mine, first, last, a, h, b)
    by false e true e' =
        let a : g ≢ slots = grind (arith, nat_tests) in
        let b : f ≡ nth = grind (arith, nat_tests) in
        absurd (omega (arith, a, b, h, is'.to))
    by false e false e' =
        let a : g ≢ slots = grind (arith, nat_tests) in
        let b : f ≢ nth = grind (arith, nat_tests) in
        let one = width_plain w f (not_locks f g h same) (not_team f g h same) b (omega (arith, h, is'.to)) in
        let mine = before_plain f is (omega (arith, h, is'.to)) in
        let other = before_plain g is' (omega (arith, a, is'.to)) in
        let first : first_field (kind_of f) ≡ first_field (kind_of g) = ap first_field same in
        omega (arith, one, mine, other, first, h)

-- and inside the words of all fields
pub in_all : (w : List ℕ) (v t f : ℕ) → version w ≡ v → thread_count w ≡ t → IsField f
    → words_before f + width w f ≤ field_words v t (kind_of f)
in_all w v t f same threads is = let from = is.from in let to = is.to in grind (arith, nat_tests)

-- the field that stands first is one of the record's
pub first_is : (k p : ℕ) → IsKind p → IsField (turned_first k p)
first_is k =
    each_kind (λ p. IsField (turned_first k p)) (record { from = omega arith; to = omega arith })
    (record { from = omega arith; to = omega arith }) (record { from = omega arith; to = omega arith })
    (record { from = omega arith; to = omega arith })

kind_1 : (x : ℕ) → x < 6 → kind_of (1 + x) ≡ 1
kind_1 x h = grind (arith, nat_tests)

kind_2 : (x : ℕ) → x < 6 → kind_of (7 + x) ≡ 2
kind_2 x h = grind (arith, nat_tests)

kind_3 : (x : ℕ) → x < 12 → kind_of (13 + x) ≡ 3
kind_3 x h = grind (arith, nat_tests)

kind_4 : (x : ℕ) → kind_of (25 + x) ≡ 4
kind_4 x = grind (arith, nat_tests)

pub first_kind : (k p : ℕ) → IsKind p → kind_of (turned_first k p) ≡ p
first_kind k =
    each_kind (λ p. kind_of (turned_first k p) ≡ p) (kind_1 (k % 6) (omega arith))
    (kind_2 (k % 6) (omega arith)) (kind_3 (k % 12) (omega arith)) (kind_4 (k % field_count tasks))

pub kind_is : (f : ℕ) → IsKind (kind_of f)
kind_is f = record { from = grind (arith, nat_tests); to = grind (arith, nat_tests) }

-- two ranges of which one ends before the other begins share nothing
pub apart_left : (a m b n : ℕ) → a + m ≤ b → shares a m b n ≡ false
apart_left a m b n h = grind (arith, nat_tests)

pub apart_right : (a m b n : ℕ) → b + n ≤ a → shares a m b n ≡ false
apart_right a m b n h = grind (arith, nat_tests)

low_value : (v k t f first : ℕ) → first ≡ turned_first k (kind_of f) → first ≤ f
    → family_offset v k t f ≡ k % 3 + (words_before f - words_before first)
low_value v k t f first is h =
    let e : nat_le first f ≡ true = grind (arith, nat_tests) in
    rw (← is) (rw e refl)

high_value : (v k t f first : ℕ) → first ≡ turned_first k (kind_of f) → f < first
    → family_offset v k t f ≡ k % 3 + ((field_words v t (kind_of f) - words_before first) + words_before f)
high_value v k t f first is h =
    let e : nat_le first f ≡ false = grind (arith, nat_tests) in
    rw (← is) (rw e refl)

module _ (v k t : ℕ) (w : List ℕ) (fam : IsFamilyOf v k t w) where
  first_ends : (f first : ℕ) → IsField f → first ≡ turned_first k (kind_of f)
      → words_before first + width w first ≤ field_words v t (kind_of f)
  first_ends f first is e =
      let kinds : kind_of first ≡ kind_of f = ap kind_of e ∙ first_kind k (kind_of f) (kind_is f) in
      subst (λ p. words_before first + width w first ≤ field_words v t p) kinds
      (in_all w v t first fam.known fam.threads (subst IsField (sym e) (first_is k (kind_of f) (kind_is f))))

  first_before : (f first : ℕ) → IsField f → first ≡ turned_first k (kind_of f) → first ≤ f
      → words_before first ≤ words_before f
  first_before f first is e h = go (first == f) refl
    where
      kinds : kind_of first ≡ kind_of f
      kinds = ap kind_of e ∙ first_kind k (kind_of f) (kind_is f)

      go : (b : Bool) → first == f ≡ b → words_before first ≤ words_before f
      go true x = let same : first ≡ f = grind (arith, nat_tests) in omega (arith, ap words_before same)
      go false x =
          let other : first < f = grind (arith, nat_tests) in omega (arith, in_order w first f (subst IsField (sym e) (first_is k (kind_of f) (kind_is f))) is other kinds)

  first_behind : (f first : ℕ) → IsField f → first ≡ turned_first k (kind_of f) → f < first
      → words_before f + width w f ≤ words_before first
  first_behind f first is e h =
      in_order w f first is (subst IsField (sym e) (first_is k (kind_of f) (kind_is f))) h
      (sym (ap kind_of e ∙ first_kind k (kind_of f) (kind_is f)))

  -- each field ends inside its record
  pub ends : (f : ℕ) → IsField f → offset w f + width w f ≤ (k % 3 + field_words v t (kind_of f))
  ends f is = go (nat_le (turned_first k (kind_of f)) f) refl
    where
      go : (b : Bool) → nat_le (turned_first k (kind_of f)) f ≡ b
          → offset w f + width w f ≤ (k % 3 + field_words v t (kind_of f))
      go true e =
          let h : turned_first k (kind_of f) ≤ f = leb-true _ _ e in
          let x = fam.offsets f is ∙ low_value v k t f (turned_first k (kind_of f)) refl h in
          omega (arith, x, in_all w v t f fam.known fam.threads is)
      go false e =
          let h : f < turned_first k (kind_of f) = grind (arith, nat_tests) in
          let x = fam.offsets f is ∙ high_value v k t f (turned_first k (kind_of f)) refl h in
          omega
          (arith, x, first_behind f (turned_first k (kind_of f)) is refl h, first_ends f (turned_first k (kind_of f)) is refl)

  -- two fields of a record are apart
  pub turned_apart : (f g : ℕ) → IsField f → IsField g → f < g → kind_of f ≡ kind_of g
      → shares (offset w f) (width w f) (offset w g) (width w g) ≡ false
  turned_apart f g is is' order same = go (nat_le first f) refl (nat_le first g) refl
    where
      first : ℕ
      first = turned_first k (kind_of f)

      also : first ≡ turned_first k (kind_of g)
      also = ap (turned_first k) same

      all : field_words v t (kind_of f) ≡ field_words v t (kind_of g)
      all = ap (field_words v t) same

      go : (b : Bool) → nat_le first f ≡ b → (d : Bool) → nat_le first g ≡ d
          → shares (offset w f) (width w f) (offset w g) (width w g) ≡ false
      go true e d e' =
          let h : first ≤ f = leb-true _ _ e in
          let x = fam.offsets f is ∙ low_value v k t f first refl h in
          let u = fam.offsets g is' ∙ low_value v k t g first also (omega (arith, h, order)) in
          apart_left (offset w f) (width w f) (offset w g) (width w g)
          (omega (arith, x, u, first_before f first is refl h, in_order w f g is is' order same))
      go false e true e' =
          let h : f < first = grind (arith, nat_tests) in
          let h' : first ≤ g = leb-true _ _ e' in
          let x = fam.offsets f is ∙ high_value v k t f first refl h in
          let u = fam.offsets g is' ∙ low_value v k t g first also h' in
          apart_right (offset w f) (width w f) (offset w g) (width w g)
          (omega (arith, x, u, all, first_before g first is' also h', in_all w v t g fam.known fam.threads is', first_ends f first is refl))
      go false e false e' =
          let h : f < first = grind (arith, nat_tests) in
          let h' : g < first = grind (arith, nat_tests) in
          let x = fam.offsets f is ∙ high_value v k t f first refl h in
          let u = fam.offsets g is' ∙ high_value v k t g first also h' in
          apart_left (offset w f) (width w f) (offset w g) (width w g)
          (omega (arith, x, u, all, in_order w f g is is' order same))
