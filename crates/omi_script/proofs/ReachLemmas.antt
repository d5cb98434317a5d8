-- The depth of functions.
use Rattle.std.proofs.Common.{◌≡◌, ℕ, ◌<◌, ◌≤◌, ◌+◌, List, [], ◌∷◌, ◌++◌, length, map, take, refl, sym, ap, ◌∙◌, arith, ⊎_elim, max, get_or, false, subst}
use Rattle.std.proofs.lemmas.Bool.{cases_lt}
use Rattle.std.proofs.lemmas.List.{take_more, map-append, get_or_append_left, get_or_past}
use Rattle.std.proofs.Math.Seq.{get_or-append_seam}
use Rattle.omi_script.specs.Reach.{Reach, depth_of, greatest, group_depth_of, reach_at, reach_of, reaches}
use Rattle.omi_script.specs.declared.function.Func.{Func}
use Rattle.omi_script.specs.declared.statement.Stmt.{Stmt}
use Rattle.omi_script.specs.declared.statement.Stmt.TheVariants.{Parallel, Task, Critical, Call, Only, Repeat, Taskgroup}
use Rattle.omi_script.proofs.StateLemmas.{reaches_more}

greatest_append : (ns : List ℕ) (n : ℕ) → greatest (ns ++ n ∷ []) ≡ max (greatest ns) n
greatest_append [] n = omega arith
greatest_append (m ∷ ns) n =
    let e : greatest (ns ++ n ∷ []) ≡ max (greatest ns) n = greatest_append ns n in omega arith

-- the greatest depth of statements up to a place, and of the next
pub greatest_more : (g : Stmt → ℕ) (xs : List Stmt) (i : ℕ) (d : Stmt) → i < length xs
    → greatest (map g (take (i + 1) xs)) ≡ max (greatest (map g (take i xs))) (g (get_or xs i d))
greatest_more g xs i d l =
    ap (λ ys. greatest (map g ys)) (take_more xs i d l)
    ∙ ap greatest (map-append g (take i xs) (get_or xs i d ∷ []))
    ∙ greatest_append (map g (take i xs)) (g (get_or xs i d))

-- where this of what each function reaches is at most the number of functions
abbrev pub AreWithin : (Reach → ℕ) → List Reach → Type 0
AreWithin of above = (f : ℕ) → of (reach_at above f) ≤ length above

depth_within : (above : List Reach) (s : Stmt) → AreWithin (λ (r : Reach). r.depth) above
    → depth_of above s ≤ length above + 1
depth_within above (Parallel f num) h = omega (arith, h f)
depth_within above (Task f undeferred is_final) h = omega (arith, h f)
depth_within above (Critical k f) h = omega (arith, h f)
depth_within above (Call f) h = omega (arith, h f)
depth_within above (Only m f) h = omega (arith, h f)
depth_within above (Repeat n f) h = omega (arith, h f)
depth_within above (Taskgroup f) h = omega (arith, h f)
depth_within above s h = omega arith

group_depth_within : (above : List Reach) (s : Stmt) → AreWithin (λ (r : Reach). r.groups) above
    → group_depth_of above s ≤ length above + 1
group_depth_within above (Critical k f) h = omega (arith, h f)
group_depth_within above (Call f) h = omega (arith, h f)
group_depth_within above (Only m f) h = omega (arith, h f)
group_depth_within above (Repeat n f) h = omega (arith, h f)
group_depth_within above (Taskgroup f) h = omega (arith, h f)
group_depth_within above s h = omega arith

greatest_within : (g : Stmt → ℕ) (n : ℕ) (body : List Stmt) → ((s : Stmt) → g s ≤ n)
    → greatest (map g body) ≤ n
greatest_within g n [] h = omega arith
greatest_within g n (s ∷ body) h = omega (arith, h s, greatest_within g n body h)

one_more : {A : Type 0} (xs : List A) (x : A) → length (xs ++ x ∷ []) ≡ length xs + 1
one_more [] x = refl
one_more (y ∷ xs) x = omega (arith, one_more xs x)

-- it is so with one function more
module _ (of : Reach → ℕ) (of_none : of (record { barrier = false; depth = 0; groups = 0 }) ≡ 0) where
  within_more : (above : List Reach) (r : Reach) → AreWithin of above → of r ≤ length above + 1
      → AreWithin of (above ++ r ∷ [])
  within_more above r h k f =
      let d : Reach = record { barrier = false; depth = 0; groups = 0 } in
      let longer = one_more above r in
      ⊎_elim
      (λ l. let e : of (reach_at (above ++ r ∷ []) f) ≡ of (reach_at above f) = ap of (get_or_append_left above (r ∷ []) d f l) in omega (arith, h f))
      (λ l. ⊎_elim
      (λ m. let at : length above ≡ f = omega arith in
      let e : of (reach_at (above ++ r ∷ []) f) ≡ of r = ap (λ n. of (reach_at (above ++ r ∷ []) n)) (sym at) ∙ ap of (get_or-append_seam above r [] d) in omega arith)
      (λ m. let e : of (reach_at (above ++ r ∷ []) f) ≡ 0 = ap of (get_or_past (above ++ r ∷ []) f d (omega arith)) ∙ of_none in omega arith)
      (cases_lt f (length above + 1)))
      (cases_lt f (length above))

  -- none has more of it than there are functions
  all_within : ((above : List Reach) (body : List Stmt) → AreWithin of above → of (reach_of above body) ≤ length above + 1)
      → (above : List Reach) (fs : List Func) → AreWithin of above → AreWithin of (reaches above fs)
  all_within next above [] h = h
  all_within next above (g ∷ fs) h =
      all_within next (above ++ reach_of above g.body ∷ []) fs
      (within_more above (reach_of above g.body) h (next above g.body h))

  within_closed : ((above : List Reach) (body : List Stmt) → AreWithin of above → of (reach_of above body) ≤ length above + 1)
      → (fs : List Func) (known : List Reach) → known ≡ reaches [] fs → AreWithin of known
  within_closed next fs known e = subst (AreWithin of) (sym e) (all_within next [] fs (λ f. none))
    where
      none : of (record { barrier = false; depth = 0; groups = 0 }) ≤ 0
      none = omega (arith, of_none)

-- no function is deeper than there are functions
pub shallow_closed : (fs : List Func) (known : List Reach) → known ≡ reaches [] fs
    → AreWithin (λ (r : Reach). r.depth) known
shallow_closed =
    within_closed (λ (r : Reach). r.depth) refl
    (λ above body h. greatest_within (depth_of above) (length above + 1) body (λ s. depth_within above s h))

pub groups_shallow_closed : (fs : List Func) (known : List Reach) → known ≡ reaches [] fs
    → AreWithin (λ (r : Reach). r.groups) known
groups_shallow_closed =
    within_closed (λ (r : Reach). r.groups) refl
    (λ above body h. greatest_within (group_depth_of above) (length above + 1) body (λ s. group_depth_within above s h))

-- what is known of one more function
pub known_more : (known : List Reach) (fs : List Func) (f : Func) → known ≡ reaches [] fs
    → reaches [] (fs ++ f ∷ []) ≡ known ++ reach_of known f.body ∷ []
known_more known fs f e = reaches_more [] fs f ∙ sym (ap (λ ks. ks ++ reach_of ks f.body ∷ []) e)
