-- Lists of closed functions that grow by one, and what a line without a fault is free of.
use Rattle.std.proofs.Common.{◌≡◌, ℕ, ◌+◌, Bool, true, false, not, cond, ◌||◌, List, [], ◌∷◌, ◌++◌, length, map, Some, None, refl, sym, ap, ◌∙◌, arith}
use Rattle.std.specs.Prelude.{find, bytes_eq}
use Rattle.std.specs.List.{list_all, list_any}
use Rattle.omi_script.specs.Names.{are_distinct}
use Rattle.omi_script.specs.Reach.{Reach, are_allowed, is_allowed, reach_of, reaches}
use Rattle.omi_script.specs.declared.fault.Why.{Why}
use Rattle.omi_script.specs.declared.function.Func.{Func}
use Rattle.omi_script.proofs.Conjunctions.{and_left, and_right, and_true}

-- none is found: the first does not pass, and none of the others is found
pub step : (has : Why → Bool) (w : Why) (ws : List Why) → find has (w ∷ ws) ≡ None
    → (has w ≡ false) × (find has ws ≡ None)
step has w ws e = by_test (has w) refl
  where
    by_test : (b : Bool) → has w ≡ b → (has w ≡ false) × (find has ws ≡ None)
    by_test false h = (h, sym (ap (λ b. cond b (Some w) (find has ws)) h) ∙ e)
    by_test true h =
        let f : Some w ≡ None = sym (ap (λ b. cond b (Some w) (find has ws)) h) ∙ e in absurd (cc f)

-- what is known of functions, with one more
pub reaches_more : (above : List Reach) (fs : List Func) (f : Func)
    → reaches above (fs ++ f ∷ []) ≡ reaches above fs ++ reach_of (reaches above fs) f.body ∷ []
reaches_more above [] f = refl
reaches_more above (g ∷ fs) f = reaches_more (above ++ reach_of above g.body ∷ []) fs f

-- one is known of each function
pub length-reaches : (above : List Reach) (fs : List Func)
    → length (reaches above fs) ≡ length above + length fs
length-reaches above [] = omega arith
length-reaches above (f ∷ fs) =
    let more : length (above ++ reach_of above f.body ∷ []) ≡ length above + 1 =
    grown above (reach_of above f.body) in
    omega (arith, length-reaches (above ++ reach_of above f.body ∷ []) fs)
  where
    grown : (xs : List Reach) (x : Reach) → length (xs ++ x ∷ []) ≡ length xs + 1
    grown [] x = refl
    grown (y ∷ xs) x = omega (arith, grown xs x)

-- the statements of one more function
pub allowed_more : (above : List Reach) (fs : List Func) (f : Func)
    → are_allowed above (map (λ g. g.body) fs) ≡ true → list_all (is_allowed (reaches above fs)) f.body ≡ true
    → are_allowed above (map (λ g. g.body) (fs ++ f ∷ [])) ≡ true
allowed_more above [] f h k = and_true (list_all (is_allowed above) f.body) true k refl
allowed_more above (g ∷ fs) f h k =
    and_true (list_all (is_allowed above) g.body) _ (and_left (list_all (is_allowed above) g.body) _ h)
    (allowed_more (above ++ reach_of above g.body ∷ []) fs f (and_right (list_all (is_allowed above) g.body) _ h) k)

-- one more name that is not there
pub distinct_more : (ns : List (List ℕ)) (n : List ℕ) → are_distinct ns ≡ true
    → list_any (λ m. bytes_eq m n) ns ≡ false → are_distinct (ns ++ n ∷ []) ≡ true
distinct_more [] n h k = refl
distinct_more (m ∷ ns) n h k =
    and_true (not (list_any (bytes_eq m) (ns ++ n ∷ []))) (are_distinct (ns ++ n ∷ []))
    (ap not (none_more m ns n (not_true (list_any (bytes_eq m) ns) (and_left (not (list_any (bytes_eq m) ns)) (are_distinct ns) h)) (or_left (bytes_eq m n) _ k)))
    (distinct_more ns n (and_right (not (list_any (bytes_eq m) ns)) (are_distinct ns) h) (or_right (bytes_eq m n) _ k))
  where
    not_true : (b : Bool) → not b ≡ true → b ≡ false
    not_true true e = absurd (cc)
    not_true false e = refl

    or_left : (a b : Bool) → (a || b) ≡ false → a ≡ false
    or_left true b e = absurd (cc)
    or_left false b e = refl

    or_right : (a b : Bool) → (a || b) ≡ false → b ≡ false
    or_right true b e = absurd (cc)
    or_right false b e = e

    none_more : (m : List ℕ) (ns : List (List ℕ)) (n : List ℕ) → list_any (bytes_eq m) ns ≡ false
        → bytes_eq m n ≡ false → list_any (bytes_eq m) (ns ++ n ∷ []) ≡ false
    none_more m [] n e f = ap (λ b. b || false) f
    none_more m (x ∷ ns) n e f =
        ap (λ b. b || list_any (bytes_eq m) (ns ++ n ∷ [])) (or_left (bytes_eq m x) _ e)
        ∙ none_more m ns n (or_right (bytes_eq m x) _ e) f
