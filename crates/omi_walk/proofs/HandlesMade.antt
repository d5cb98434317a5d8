-- Handles of tasks that are made one after the other.
use Rattle.std.proofs.Common.{◌≡◌, ◌≢◌, inl, inr, ℕ, zero, suc, ◌+◌, cond, List, [], ◌∷◌, ◌++◌, map, length, Option, Some, None, refl, sym, ap, subst, ◌∙◌, arith}
use Rattle.std.specs.Prelude.{All}
use Rattle.std.specs.FinMap.{get, get-insert}
use Rattle.std.specs.List.{range_with_len}
use Rattle.std.specs.Ordering.{eq_by_cmp}
use Rattle.std.proofs.lemmas.List.{map-append, length_push, take_at}
use Rattle.std.proofs.lemmas.List.Elements.{All-push, All-weaker, All-take, All-contains, Contains-push}
use Rattle.omi_handle.specs.declared.handle.Held.{Held}
use Rattle.omi_handle.specs.declared.handle.TaskHandle.{TaskHandle}
use Rattle.omi_handle.specs.Ledger.{Ledger, pair_cmp}
use Rattle.omi_handle.proofs.HeldLemmas.{pair_cmp_total, tied, one_of_both, kept_inserted}
use Rattle.omi_model.specs.declared.id.Tid.{Tid}
use Rattle.omi_session.specs.Made.{AddsHandle, task_pair}
use Rattle.omi_walk.specs.Kept.{Keeps, task_object}

-- a number more at the end
range_more : (a n : ℕ) → range_with_len a (suc n) ≡ range_with_len a n ++ (a + n) ∷ []
range_more a zero = let same : a ≡ a + 0 = omega arith in ap (λ k. k ∷ []) same
range_more a (suc n) =
    let same : (a + 1) + n ≡ a + suc n = omega arith in
    ap (λ (ks : List ℕ). a ∷ ks) (range_more (a + 1) n ∙ ap (λ k. range_with_len (a + 1) n ++ k ∷ []) same)

-- what holds of all holds of those in front, and of the last
front_of : {X : Type 0} (P : X → Type 0) (xs : List X) (x : X) → All P (xs ++ x ∷ []) → All P xs
front_of P xs x all =
    subst (All P) (take_at xs (x ∷ []) (length xs) refl) (All-take P (length xs) (xs ++ x ∷ []) all)

last_of : {X : Type 0} (P : X → Type 0) (xs : List X) (x : X) → All P (xs ++ x ∷ []) → P x
last_of P xs x all = All-contains P (xs ++ x ∷ []) x all (Contains-push xs x)

abbrev Task : Type 0
Task = Tid × TaskHandle

-- so many handles were made, one after the other, and none was let go
pub record AreMade (w : List ℕ) (old new : Ledger) (kept : List (Tid × TaskHandle)) : Type 0 where
  pub count : new.made ≡ old.made + length kept
  pub serials : map (λ k. k.1.serial) kept ≡ range_with_len old.made (length kept)
  pub each : All (λ k. get new.held (task_pair k.1) ≡ Some (task_object w k.0)) kept
  pub fresh : All (λ k. get old.held (task_pair k.1) ≡ None) kept
  pub others : (pair : ℕ × ℕ) → All (λ k. task_pair k.1 ≢ pair) kept
      → get new.held pair ≡ get old.held pair
  pub still : (pair : ℕ × ℕ) (h : Held) → get old.held pair ≡ Some h → get new.held pair ≡ Some h

module _ (w : List ℕ) (old mid new : Ledger) (kept : List (Tid × TaskHandle)) (k : Tid × TaskHandle)
    (so : AreMade w old mid kept) (adds : AddsHandle mid new (task_pair k.1) (task_object w k.0)) where
  now_held : (pair : ℕ × ℕ) (h : Held) → get mid.held pair ≡ Some h → get new.held pair ≡ Some h
  now_held pair h is =
      ap (λ map. get map pair) adds.added
      ∙ kept_inserted mid.held (task_pair k.1) (task_object w k.0) adds.unheld pair h is

  not_before : get old.held (task_pair k.1) ≡ None
  not_before = go (get old.held (task_pair k.1)) refl
    where
      go : (o : Option Held) → get old.held (task_pair k.1) ≡ o → o ≡ None
      go None e = refl
      go (Some h) e =
          let clash : Some h ≡ None = sym (so.still (task_pair k.1) h e) ∙ adds.unheld in absurd (cc)

  as_before : (pair : ℕ × ℕ) → task_pair k.1 ≢ pair → get new.held pair ≡ get mid.held pair
  as_before pair apart =
      ap (λ map. get map pair) adds.added
      ∙ get-insert pair_cmp_total mid.held (task_pair k.1) (task_object w k.0) pair
      ∙ elim (one_of_both (eq_by_cmp pair_cmp pair (task_pair k.1))) [
        | inl is ↦ absurd (apart (sym (tied pair (task_pair k.1) is)))
        | inr is ↦ ap (λ b. cond b (Some (task_object w k.0)) (get mid.held pair)) is
      ]

  pub made_next : AreMade w old new (kept ++ k ∷ [])
  made_next =
      let one : length (kept ++ k ∷ []) ≡ suc (length kept) = (let more = length_push kept k in omega (arith, more)) in
      record {
        count = omega (arith, so.count, adds.counted, one);
        serials =
            map-append (λ (k : Task). k.1.serial) kept (k ∷ [])
            ∙ ap (λ ks. ks ++ k.1.serial ∷ []) so.serials
            ∙ ap (λ n. range_with_len old.made (length kept) ++ n ∷ []) (adds.serial ∙ so.count)
            ∙ sym (range_more old.made (length kept)) ∙ ap (range_with_len old.made) (sym one);
        each =
            All-push (λ (k : Task). get new.held (task_pair k.1) ≡ Some (task_object w k.0)) kept k
            (All-weaker (λ (k : Task). get mid.held (task_pair k.1) ≡ Some (task_object w k.0))
            (λ (k : Task). get new.held (task_pair k.1) ≡ Some (task_object w k.0))
            (λ (k : Task) is. now_held (task_pair k.1) (task_object w k.0) is) kept so.each)
            adds.found;
        fresh = All-push (λ (k : Task). get old.held (task_pair k.1) ≡ None) kept k so.fresh not_before;
        others = λ pair apart.
            as_before pair (last_of (λ (k : Task). task_pair k.1 ≢ pair) kept k apart)
            ∙ so.others pair (front_of (λ (k : Task). task_pair k.1 ≢ pair) kept k apart);
        still = λ pair h is. now_held pair h (so.still pair h is);
      }

-- so each has a handle of its own
pub keeps_made : (w : List ℕ) (old new : Ledger) (kept : List (Tid × TaskHandle)) → AreMade w old new kept
    → Keeps w old new kept
keeps_made w old new kept so = record {
  first = old.made;
  later = omega arith;
  apart = so.serials;
  each = so.each;
  fresh = so.fresh;
  others = so.others;
}
