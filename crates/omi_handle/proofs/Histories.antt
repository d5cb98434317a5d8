-- What every history of a table of handles leaves.
use Rattle.std.proofs.Common.{◌≡◌, ◌≢◌, ◌⊎◌, inl, inr, ℕ, zero, suc, ◌+◌, ◌<◌, cond, List, [], ◌∷◌, length, slice_index_or, AllPairs, Option, Some, None, refl, sym, ap, ◌∙◌, arith}
use Rattle.std.specs.Ordering.{eq_by_cmp}
use Rattle.std.specs.FinMap.{get, insert, remove, get-empty, get-insert}
use Rattle.omi_handle.specs.declared.handle.Held.{Held}
use Rattle.omi_handle.specs.Ledger.{Ledger, pair_cmp}
use Rattle.omi_handle.specs.History.{Deed, Made, Released, StandsAt, IsUnreleased, given}
use Rattle.omi_handle.proofs.HeldLemmas.{pair_cmp_total, one_of_both, tied, found_inserted, kept_inserted, others_removed, gone_removed}

-- the pair at a place has the serial that counts the pairs given before it
serials : (deeds : List Deed) (ledger : Ledger) → StandsAt deeds ledger → (place : ℕ) (d : ℕ × ℕ)
    → place < length (given deeds)
    → (slice_index_or (given deeds) place d).1 + suc place ≡ ledger.made
serials [] ledger stands place d within = absurd (omega arith)
serials (Made pair h ∷ before) ledger stands zero d within =
    let serial : pair.1 ≡ stands.0.made = stands.2.0 in
    let counted : ledger.made ≡ stands.0.made + 1 = stands.2.1 in
    omega arith
serials (Made pair h ∷ before) ledger stands (suc place) d within =
    let counted : ledger.made ≡ stands.0.made + 1 = stands.2.1 in
    let earlier = serials before stands.0 stands.1 place d (omega arith) in
    omega (arith, earlier)
serials (Released pair ∷ before) ledger stands place d within =
    serials before stands.0 stands.1 place d within ∙ sym stands.2.0

pub once : (deeds : List Deed) (ledger : Ledger) → StandsAt deeds ledger
    → AllPairs (λ later earlier. later ≢ earlier) (given deeds)
once deeds ledger stands i j d before within = λ same.
    let first = serials deeds ledger stands i d (omega arith) in
    let second = serials deeds ledger stands j d within in
    let serial : (slice_index_or (given deeds) i d).1 ≡ (slice_index_or (given deeds) j d).1 =
    ap (λ (pair : ℕ × ℕ). pair.1) same in
    omega (arith, first, second, serial)

-- whatever is found after an insertion is the inserted or was there
inserted_from : (ledger : Ledger) (pair other : ℕ × ℕ) (g h : Held)
    → get (insert ledger.held pair g) other ≡ Some h
    → ((pair ≡ other) × (g ≡ h)) ⊎ (get ledger.held other ≡ Some h)
inserted_from ledger pair other g h found = elim (one_of_both (eq_by_cmp pair_cmp other pair)) [
  | inl is ↦
      let this : Some g ≡ Some h =
      ap (λ b. cond b (Some g) (get ledger.held other)) (sym is)
      ∙ sym (get-insert pair_cmp_total ledger.held pair g other)
      ∙ found in
      inl (sym (tied other pair is), cc)
  | inr is ↦ inr (ap (λ b. cond b (Some g) (get ledger.held other)) (sym is) ∙ sym (get-insert pair_cmp_total ledger.held pair g other) ∙ found)
]

removed_from : (ledger : Ledger) (pair other : ℕ × ℕ) (h : Held)
    → get (remove ledger.held pair) other ≡ Some h
    → (pair ≢ other) × (get ledger.held other ≡ Some h)
removed_from ledger pair other h found =
    let apart : pair ≢ other =
    λ same. (let none : ◌≡◌ {A = Option Held} (Some h) None = sym found ∙ ap (get (remove ledger.held pair)) (sym same) ∙ gone_removed ledger.held pair in cc) in
    (apart, sym (others_removed ledger.held pair other (λ same. apart (sym same))) ∙ found)

-- what is held has a serial below the number made
below : (deeds : List Deed) (ledger : Ledger) → StandsAt deeds ledger → (pair : ℕ × ℕ) (h : Held)
    → get ledger.held pair ≡ Some h → pair.1 < ledger.made
below [] ledger stands pair h found =
    absurd
    (let none : ◌≡◌ {A = Option Held} (Some h) None = sym found ∙ ap (λ m. get m pair) stands.0 ∙ get-empty pair_cmp pair in cc)
below (Made other g ∷ before) ledger stands pair h found =
    let counted : ledger.made ≡ stands.0.made + 1 = stands.2.1 in
    elim (inserted_from stands.0 other pair g h (ap (λ m. get m pair) (sym stands.2.2) ∙ found)) [
      | inl is ↦ let serial : other.1 ≡ stands.0.made = stands.2.0 in let same : other.1 ≡ pair.1 = ap (λ (p : ℕ × ℕ). p.1) is.0 in omega arith
      | inr was ↦ let earlier = below before stands.0 stands.1 pair h was in omega (arith, earlier)
    ]
below (Released other ∷ before) ledger stands pair h found =
    let kept : ledger.made ≡ stands.0.made = stands.2.0 in
    let earlier =
    below before stands.0 stands.1 pair h
    (removed_from stands.0 other pair h (ap (λ m. get m pair) (sym stands.2.1) ∙ found)).1 in
    omega (arith, earlier)

unheld : (ledger : Ledger) (pair : ℕ × ℕ) → ((h : Held) → get ledger.held pair ≡ Some h → ⊥)
    → get ledger.held pair ≡ None
unheld ledger pair none = by_found (get ledger.held pair) none
  where
    by_found : (found : Option Held) → ((h : Held) → found ≡ Some h → ⊥) → found ≡ None
    by_found None none = refl
    by_found (Some h) none = absurd (none h refl)

pub kept : (deeds : List Deed) (ledger : Ledger) (pair : ℕ × ℕ) (h : Held) → StandsAt deeds ledger
    → IsUnreleased deeds pair h
    → get ledger.held pair ≡ Some h
kept [] ledger pair h stands is = absurd is
kept (Made other g ∷ before) ledger pair h stands is =
    let serial : other.1 ≡ stands.0.made = stands.2.0 in
    let fresh : get stands.0.held other ≡ None =
    unheld stands.0 other
    (λ old found. (let earlier = below before stands.0 stands.1 other old found in omega (arith, earlier))) in
    ap (λ m. get m pair) stands.2.2
    ∙ elim is [
      | inl this ↦ ap (get (insert stands.0.held other g)) (sym this.0) ∙ found_inserted stands.0.held other g ∙ ap (λ (x : Held). Some x) this.1
      | inr earlier ↦ kept_inserted stands.0.held other g fresh pair h (kept before stands.0 pair h stands.1 earlier)
    ]
kept (Released other ∷ before) ledger pair h stands is =
    ap (λ m. get m pair) stands.2.1
    ∙ others_removed stands.0.held other pair (λ same. is.0 (sym same))
    ∙ kept before stands.0 pair h stands.1 is.1

pub released : (deeds : List Deed) (ledger : Ledger) (pair : ℕ × ℕ) (h : Held) → StandsAt deeds ledger
    → get ledger.held pair ≡ Some h
    → IsUnreleased deeds pair h
released [] ledger pair h stands found =
    let none : ◌≡◌ {A = Option Held} (Some h) None = sym found ∙ ap (λ m. get m pair) stands.0 ∙ get-empty pair_cmp pair in cc
released (Made other g ∷ before) ledger pair h stands found =
    elim (inserted_from stands.0 other pair g h (ap (λ m. get m pair) (sym stands.2.2) ∙ found)) [
      | inl is ↦ inl is
      | inr was ↦ inr (released before stands.0 pair h stands.1 was)
    ]
released (Released other ∷ before) ledger pair h stands found =
    let was = removed_from stands.0 other pair h (ap (λ m. get m pair) (sym stands.2.1) ∙ found) in
    (was.0, released before stands.0 pair h stands.1 was.1)
