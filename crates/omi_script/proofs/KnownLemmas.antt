-- What is known of the functions above one, and of all functions.
use Rattle.std.proofs.Common.{◌≡◌, ℕ, ◌<◌, ◌≤◌, ◌+◌, zero, suc, Bool, true, false, ◌||◌, List, [], ◌∷◌, ◌++◌, length, map, take, get_or, Option, Some, refl, sym, ap, ◌∙◌, arith, max, subst}
use Rattle.std.specs.Prelude.{slice_get}
use Rattle.std.specs.List.{list_all, list_any}
use Rattle.std.specs.Option.{option_map_or}
use Rattle.std.proofs.lemmas.List.{length-take-le, length_push, get_or_append_left}
use Rattle.std.proofs.lemmas.Option.{slice_get-get_or}
use Rattle.std.proofs.Math.Seq.{get_or-append_seam}
use Rattle.omi_script.specs.Bodies.{body_of, named_by}
use Rattle.omi_script.specs.Ranges.{is_in_range}
use Rattle.omi_script.specs.Reach.{Reach, are_allowed, depth_of, greatest, group_depth_of, is_allowed, names_rightly, reach_at, reach_in, reach_of, reaches, reaches_barrier}
use Rattle.omi_script.specs.declared.function.Func.{Func}
use Rattle.omi_script.specs.declared.statement.Stmt.{Stmt}
use Rattle.omi_script.specs.declared.statement.Stmt.TheVariants.{Parallel, Task, Critical, Call, Only, Repeat, Taskgroup}
use Rattle.omi_script.proofs.Conjunctions.{and_left, and_right}
use Rattle.omi_script.proofs.NamingLemmas.{IsBelow, named_above}
use Rattle.omi_script.proofs.StateLemmas.{length-reaches}

-- functions further on change nothing of what is known
pub reach_kept : (above : List Reach) (fs : List Func) (g : ℕ) → g < length above
    → reach_at (reaches above fs) g ≡ reach_at above g
reach_kept above [] g l = refl
reach_kept above (f ∷ fs) g l =
    let r : Reach = reach_of above f.body in
    let longer : length (above ++ r ∷ []) ≡ length above + 1 = length_push above r in
    reach_kept (above ++ r ∷ []) fs g (omega arith)
    ∙ get_or_append_left above (r ∷ []) (record { barrier = false; depth = 0; groups = 0 }) g l

-- a function reaches among all what it reaches among the first
pub reach_first : (above : List Reach) (fs : List Func) (f g : ℕ) → f ≤ length fs → g < length above + f
    → reach_at (reaches above fs) g ≡ reach_at (reaches above (take f fs)) g
reach_first above fs zero g l m = reach_kept above fs g (omega arith)
reach_first above [] (suc f) g l m = absurd (omega arith)
reach_first above (x ∷ fs) (suc f) g l m =
    let r : Reach = reach_of above x.body in
    let longer : length (above ++ r ∷ []) ≡ length above + 1 = length_push above r in
    reach_first (above ++ r ∷ []) fs f g (omega arith) (omega arith)

-- one is known of each of the first
pub length_first : (fs : List Func) (f : ℕ) → f ≤ length fs → length (reaches [] (take f fs)) ≡ f
length_first fs f l =
    let known : length (reaches [] (take f fs)) ≡ 0 + length (take f fs) = length-reaches [] (take f fs) in
    omega (arith, length-take-le f fs l)

-- the statements of a function may stand after the functions above it
pub allowed_at : (above : List Reach) (fs : List Func) (f : ℕ) (g : Func) → slice_get fs f ≡ Some g
    → are_allowed above (map (λ (h : Func). h.body) fs) ≡ true
    → list_all (is_allowed (reaches above (take f fs))) g.body ≡ true
allowed_at above [] f g e h = absurd (cc)
allowed_at above (x ∷ fs) zero g e h =
    let same : x ≡ g = cc e in
    ap (λ (y : Func). list_all (is_allowed above) y.body) (sym same)
    ∙ and_left (list_all (is_allowed above) x.body)
    (are_allowed (above ++ reach_of above x.body ∷ []) (map (λ (h : Func). h.body) fs)) h
allowed_at above (x ∷ fs) (suc f) g e h =
    allowed_at (above ++ reach_of above x.body ∷ []) fs f g e
    (and_right (list_all (is_allowed above) x.body) (are_allowed (above ++ reach_of above x.body ∷ []) (map (λ (h : Func). h.body) fs)) h)

-- what a function reaches is what its statements reach after those above it
reach_of_own : (above : List Reach) (fs : List Func) (f n : ℕ) (g : Func) → slice_get fs f ≡ Some g
    → n ≡ length above + f → reach_at (reaches above fs) n ≡ reach_of (reaches above (take f fs)) g.body
reach_of_own above [] f n g e i = absurd (cc)
reach_of_own above (x ∷ fs) zero n g e i =
    let same : x ≡ g = cc e in
    let r : Reach = reach_of above x.body in
    let longer : length (above ++ r ∷ []) ≡ length above + 1 = length_push above r in
    let at : n ≡ length above = omega arith in
    reach_kept (above ++ r ∷ []) fs n (omega arith)
    ∙ ap (reach_at (above ++ r ∷ [])) at
    ∙ get_or-append_seam above r [] (record { barrier = false; depth = 0; groups = 0 })
    ∙ ap (λ (y : Func). reach_of above y.body) same
reach_of_own above (x ∷ fs) (suc f) n g e i =
    let r : Reach = reach_of above x.body in
    let longer : length (above ++ r ∷ []) ≡ length above + 1 = length_push above r in
    reach_of_own (above ++ r ∷ []) fs f n g e (omega arith)

-- what a statement reaches, by the function that it names
abbrev SameFor : List Reach → List Reach → Option ℕ → Type 0
SameFor xs ys o = (g : ℕ) → o ≡ Some g → reach_at xs g ≡ reach_at ys g

same_barrier : (xs ys : List Reach) (s : Stmt) → SameFor xs ys (named_by s)
    → reaches_barrier xs s ≡ reaches_barrier ys s
same_barrier xs ys (Critical k f) h = ap (λ (r : Reach). r.barrier) (h f refl)
same_barrier xs ys (Call f) h = ap (λ (r : Reach). r.barrier) (h f refl)
same_barrier xs ys (Only m f) h = ap (λ (r : Reach). r.barrier) (h f refl)
same_barrier xs ys (Repeat n f) h = ap (λ (r : Reach). r.barrier) (h f refl)
same_barrier xs ys (Taskgroup f) h = ap (λ (r : Reach). r.barrier) (h f refl)
same_barrier xs ys s h = refl

same_depth : (xs ys : List Reach) (s : Stmt) → SameFor xs ys (named_by s) → depth_of xs s ≡ depth_of ys s
same_depth xs ys (Parallel f num) h = ap (λ (r : Reach). r.depth + 1) (h f refl)
same_depth xs ys (Task f undeferred is_final) h = ap (λ (r : Reach). r.depth) (h f refl)
same_depth xs ys (Critical k f) h = ap (λ (r : Reach). r.depth) (h f refl)
same_depth xs ys (Call f) h = ap (λ (r : Reach). r.depth) (h f refl)
same_depth xs ys (Only m f) h = ap (λ (r : Reach). r.depth) (h f refl)
same_depth xs ys (Repeat n f) h = ap (λ (r : Reach). r.depth) (h f refl)
same_depth xs ys (Taskgroup f) h = ap (λ (r : Reach). r.depth) (h f refl)
same_depth xs ys s h = refl

same_group_depth : (xs ys : List Reach) (s : Stmt) → SameFor xs ys (named_by s)
    → group_depth_of xs s ≡ group_depth_of ys s
same_group_depth xs ys (Taskgroup f) h = ap (λ (r : Reach). r.groups + 1) (h f refl)
same_group_depth xs ys (Critical k f) h = ap (λ (r : Reach). r.groups) (h f refl)
same_group_depth xs ys (Call f) h = ap (λ (r : Reach). r.groups) (h f refl)
same_group_depth xs ys (Only m f) h = ap (λ (r : Reach). r.groups) (h f refl)
same_group_depth xs ys (Repeat n f) h = ap (λ (r : Reach). r.groups) (h f refl)
same_group_depth xs ys s h = refl

-- what a list of statements reaches, where each function above reaches the same
same_body : (xs ys : List Reach) (body : List Stmt)
    → ((g : ℕ) → g < length xs → reach_at xs g ≡ reach_at ys g) → list_all (is_allowed xs) body ≡ true
    → (list_any (reaches_barrier xs) body ≡ list_any (reaches_barrier ys) body) × (greatest (map (depth_of xs) body) ≡ greatest (map (depth_of ys) body))
    × (greatest (map (group_depth_of xs) body) ≡ greatest (map (group_depth_of ys) body))
same_body xs ys [] h k = (refl, refl, refl)
same_body xs ys (s ∷ body) h k =
    let rightly : names_rightly xs s ≡ true =
    and_right (is_in_range s) (names_rightly xs s)
    (and_left (is_allowed xs s) (list_all (is_allowed xs) body) k) in
    let rest = same_body xs ys body h (and_right (is_allowed xs s) (list_all (is_allowed xs) body) k) in
    let each : SameFor xs ys (named_by s) = λ g e. h g (below g e (named_above xs s rightly)) in (
      ap (λ b. b || list_any (reaches_barrier xs) body) (same_barrier xs ys s each) ∙ ap (λ b. reaches_barrier ys s || b) rest.0,
      ap (λ d. max d (greatest (map (depth_of xs) body))) (same_depth xs ys s each) ∙ ap (λ d. max (depth_of ys s) d) rest.1,
      ap (λ d. max d (greatest (map (group_depth_of xs) body))) (same_group_depth xs ys s each) ∙ ap (λ d. max (group_depth_of ys s) d) rest.2,
    )
  where
    below : (g : ℕ) → named_by s ≡ Some g → IsBelow (length xs) (named_by s) → g < length xs
    below g e b = let Below : Option ℕ → Type 0 = λ o. IsBelow (length xs) o in subst Below e b

-- what a function reaches is what its statements reach over all functions
pub same_reach : (fs : List Func) (f : ℕ) → f < length fs
    → are_allowed [] (map (λ (h : Func). h.body) fs) ≡ true
    → reach_in fs f ≡ reach_of (reaches [] fs) (body_of fs f)
same_reach fs f l h =
    let no_func : Func = record { name = record { len = 0; bytes = [] }; body = [] } in
    let g : Func = get_or fs f no_func in
    let at : slice_get fs f ≡ Some g = slice_get-get_or fs f no_func l in
    let first : List Reach = reaches [] (take f fs) in
    let count : length first ≡ f = length_first fs f (omega arith) in
    let same =
    same_body first (reaches [] fs) g.body (λ k m. sym (reach_first [] fs f k (omega arith) (omega arith)))
    (allowed_at [] fs f g at h) in
    let barrier : Bool → Reach =
    λ b. record { barrier = b; depth = greatest (map (depth_of first) g.body); groups = greatest (map (group_depth_of first) g.body) } in
    let depth : ℕ → Reach =
    λ d. record { barrier = list_any (reaches_barrier (reaches [] fs)) g.body; depth = d; groups = greatest (map (group_depth_of first) g.body) } in
    let groups : ℕ → Reach =
    λ n. record { barrier = list_any (reaches_barrier (reaches [] fs)) g.body; depth = greatest (map (depth_of (reaches [] fs)) g.body); groups = n } in
    reach_of_own [] fs f f g at (omega arith)
    ∙ ap barrier same.0
    ∙ ap depth same.1
    ∙ ap groups same.2
    ∙ sym (ap (λ o. reach_of (reaches [] fs) (option_map_or (λ (h : Func). h.body) o [])) at)
