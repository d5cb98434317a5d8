-- An index of what was met, with one object more.
use Rattle.std.proofs.Common.{◌≡◌, ◌==◌, ◌+◌, ℕ, Bool, true, false, cond, List, [], ◌∷◌, ◌++◌, find, slice_get, take, append_assoc, Option, Some, None, refl, sym, ap, ◌∙◌, eqb-true}
use Rattle.std.specs.Cmp.{unsigned_ties}
use Rattle.std.specs.Option.{option_or, is_some}
use Rattle.std.specs.Ordering.{nat_cmp}
use Rattle.std.specs.BTreeMap.{BTreeMap, get, Updates}
use Rattle.std.proofs.lemmas.List.{take_more}
use Rattle.std.proofs.lemmas.List.Folds.{find-append}
use Rattle.std.proofs.lemmas.Option.{slice_get_within, get_or_from_slice_get}
use Rattle.omi_walk.specs.declared.met.Met.{Met}
use Rattle.omi_walk.specs.Index.{key_of, HasFirst}

-- what is there, or this where nothing is
or_nothing : (o : Option Met) → o ≡ option_or o None
or_nothing None = refl
or_nothing (Some m) = refl

or_kept : (o : Option Met) (m : Met) → is_some o ≡ true → o ≡ option_or o (Some m)
or_kept None m is = absurd (cc)
or_kept (Some x) m is = refl

pub no_some : (o : Option Met) → false ≡ is_some o → o ≡ None
no_some None is = refl
no_some (Some m) is = absurd (cc)

-- the objects before a list's place, and that at this place
pub one_further : (before met : List Met) (i : ℕ) (m : Met) → slice_get met i ≡ Some m
    → (before ++ take i met) ++ m ∷ [] ≡ before ++ take (i + 1) met
one_further before met i m at =
    append_assoc before (take i met) (m ∷ [])
    ∙ ap (λ xs. before ++ xs)
    (sym (take_more met i m (slice_get_within met i m at) ∙ ap (λ y. take i met ++ y ∷ []) (get_or_from_slice_get met i m m at)))

module _ (index : BTreeMap ℕ Met) (before : List Met) (m : Met) (has : HasFirst index before) where
  -- the first of these objects and this one
  first_of : (key : ℕ)
      → option_or (get nat_cmp index key) (cond (key_of m == key) (Some m) None) ≡ find (λ m. key_of m == key) (before ++ m ∷ [])
  first_of key =
      ap (λ o. option_or o (cond (key_of m == key) (Some m) None)) (has key)
      ∙ sym (find-append (λ m. key_of m == key) before (m ∷ []))

  -- an object of a slot that has none
  pub first_put : (now : BTreeMap ℕ Met) → get nat_cmp index (key_of m) ≡ None
      → Updates nat_cmp index now (key_of m) (Some m) → HasFirst now (before ++ m ∷ [])
  first_put now none updates key =
      updates.0 key
      ∙ ap (λ (b : Bool). cond b (Some m) (get nat_cmp index key)) (sym (unsigned_ties (key_of m) key))
      ∙ go (key_of m == key) (λ same. ap (get nat_cmp index) (sym (eqb-true (key_of m) key same)) ∙ none)
      ∙ first_of key
    where
      go : (b : Bool) → (b ≡ true → get nat_cmp index key ≡ None)
          → cond b (Some m) (get nat_cmp index key) ≡ option_or (get nat_cmp index key) (cond b (Some m) None)
      go true none = sym (ap (λ o. option_or o (Some m)) (none refl))
      go false none = or_nothing (get nat_cmp index key)

  -- and one of a slot that has one
  pub first_kept : is_some (get nat_cmp index (key_of m)) ≡ true → HasFirst index (before ++ m ∷ [])
  first_kept some key =
      go (key_of m == key)
      (λ same. ap (λ k. is_some (get nat_cmp index k)) (sym (eqb-true (key_of m) key same)) ∙ some)
      ∙ first_of key
    where
      go : (b : Bool) → (b ≡ true → is_some (get nat_cmp index key) ≡ true)
          → get nat_cmp index key ≡ option_or (get nat_cmp index key) (cond b (Some m) None)
      go true some = or_kept (get nat_cmp index key) m (some refl)
      go false some = or_nothing (get nat_cmp index key)
