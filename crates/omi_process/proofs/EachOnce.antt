-- Ids that were put into a set, and those of them that are among others.
use Rattle.std.proofs.Common.{◌≡◌, ℕ, suc, ◌+◌, ◌-◌, ◌<◌, ◌≤◌, ◌==◌, ◌&&◌, Bool, true, false, cond, List, [], ◌∷◌, length, drop, get_or, refl, sym, ap, subst, ◌∙◌, arith, eqb-true}
use Rattle.std.specs.Prelude.{◌||◌, not, filter}
use Rattle.std.specs.BTreeMap.{is_at}
use Rattle.std.specs.Cmp.{unsigned_tied, nat_eq_equiv}
use Rattle.std.specs.List.{list_any}
use Rattle.std.specs.List.Sorted.{IsStrictlySortedBy}
use Rattle.std.specs.Ordering.{nat_cmp}
use Rattle.std.proofs.lemmas.Grind.{common_steps}
use Rattle.std.proofs.lemmas.List.{drop_more}
use Rattle.std.proofs.lemmas.List.Kept.{IsStrictlySortedBy-filter}
use Rattle.std.proofs.lemmas.Map.Keys.{IsStrictlyIncreasing-from_sorted, sorted_from_strictly_increasing}
use Rattle.std.proofs.lemmas.Map.Views.{any-filter_same}
use Rattle.omi_process.specs.Contexts.{has, AreThose, AreContexts}
use Rattle.omi_process.specs.declared.listed.Listed.TheVariants.{Threads}

-- a query finds the number that it is
finds : (query key : ℕ) → is_at (nat_cmp query) key ≡ (key == query)
finds query key = unsigned_tied query key ∙ nat_eq_equiv.symm query key

-- and the numbers of a set are found where they are among its keys
pub keys_have : (keys : List ℕ) (id : ℕ) → list_any (is_at (nat_cmp id)) keys ≡ has keys id
keys_have [] id = refl
keys_have (key ∷ keys) id = λ i. finds id key i || keys_have keys id i

-- an id more was put in
pub one_more : (ids : List ℕ) (at id : ℕ) (before now : Bool) → at < length ids
    → now ≡ cond (is_at (nat_cmp (get_or ids at 0)) id) true before
    → now || has (drop (at + 1) ids) id ≡ before || has (drop at ids) id
one_more ids at id before now within is =
    let left : has (drop at ids) id ≡ (get_or ids at 0 == id) || has (drop (at + 1) ids) id =
    ap (λ xs. has xs id) (drop_more ids at 0 within) in
    let put : now ≡ cond (get_or ids at 0 == id) true before =
    is ∙ ap (λ b. cond b true before) (unsigned_tied (get_or ids at 0) id) in
    ap (λ b. b || has (drop (at + 1) ids) id) put
    ∙ go (get_or ids at 0 == id) before (has (drop (at + 1) ids) id)
    ∙ sym (ap (λ b. before || b) left)
  where
    go : (same before rest : Bool) → cond same true before || rest ≡ before || (same || rest)
    go true true rest = refl
    go true false rest = refl
    go false true rest = refl
    go false false rest = refl

-- ---- those that pass a test

module _ (p : ℕ → Bool) where
  -- among them an id is found where it is among all and passes
  kept_has : (ids : List ℕ) (id : ℕ) → has (filter p ids) id ≡ p id && has ids id
  kept_has ids id = any-filter_same (λ other. other == id) p (p id) (λ other same. ap p (eqb-true other id same)) ids

  pub kept_are : (test : ℕ → Bool) (ids : List ℕ) → AreThose test ids → AreThose (λ id. test id && p id) (filter p ids)
  kept_are test ids are = record {
    rise =
        IsStrictlyIncreasing-from_sorted (filter p ids)
        (IsStrictlySortedBy-filter nat_cmp p ids (sorted_from_strictly_increasing ids are.rise));
    each = λ id. kept_has ids id ∙ ap (λ b. p id && b) (are.each id) ∙ turned (p id) (test id);
  }
    where
      turned : (a b : Bool) → a && b ≡ b && a
      turned true true = refl
      turned true false = refl
      turned false true = refl
      turned false false = refl

  count_both : (ids : List ℕ) → length ids ≡ length (filter p ids) + length (filter (λ id. not (p id)) ids)
  count_both [] = refl
  count_both (x ∷ ids) = go (p x) refl (count_both ids)
    where
      go : (b : Bool) → p x ≡ b → length ids ≡ length (filter p ids) + length (filter (λ id. not (p id)) ids)
          → suc (length ids) ≡ length (filter p (x ∷ ids)) + length (filter (λ id. not (p id)) (x ∷ ids))
      go true e all = rw e (omega (arith, all))
      go false e all = rw e (omega (arith, all))

  -- the others are as many as were left out
  pub others_left : (ids : List ℕ) → length ids - length (filter p ids) ≡ length (filter (λ id. not (p id)) ids)
  others_left ids = omega (arith, count_both ids)

-- ---- the ids that are listed

-- a set has each of them, and none is left
pub once_are : (ids keys : List ℕ) (at : ℕ) → length ids ≤ at → IsStrictlySortedBy nat_cmp keys
    → ((id : ℕ) → list_any (is_at (nat_cmp id)) keys || has (drop at ids) id ≡ has ids id) → AreThose (has ids) keys
once_are ids keys at past rises all = record {
  rise = IsStrictlyIncreasing-from_sorted keys rises;
  each = λ id.
      sym (keys_have keys id)
      ∙ sym (left_false (list_any (is_at (nat_cmp id)) keys))
      ∙ ap (λ xs. list_any (is_at (nat_cmp id)) keys || has xs id) (sym (none ids at past))
      ∙ all id;
}
  where
    left_false : (b : Bool) → b || false ≡ b
    left_false true = refl
    left_false false = refl

    none : (ids : List ℕ) (at : ℕ) → length ids ≤ at → drop at ids ≡ []
    none ids at past = grind (arith, common_steps, past)

-- those among them that are recorded, and how many others there are
pub contexts_are : (ids once contexts recorded : List ℕ) (others : ℕ) → AreThose (has ids) once → contexts ≡ filter (has recorded) once
    → others ≡ length once - length contexts → AreContexts (Threads ids) recorded contexts others
contexts_are ids once contexts recorded others are kept count = (
  subst (AreThose (λ id. has ids id && has recorded id)) (sym kept) (kept_are (has recorded) (has ids) once are),
  (
    filter (λ id. not (has recorded id)) once,
    kept_are (λ id. not (has recorded id)) (has ids) once are,
    count ∙ ap (λ (cs : List ℕ). length once - length cs) kept ∙ others_left (has recorded) once,
  ),
)
