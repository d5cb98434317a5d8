-- What a statement without a fault may name, and names from their bytes.
use Rattle.std.proofs.Common.{◌≡◌, ℕ, ◌<◌, ◌-◌, Bool, true, false, not, ◌&&◌, cond, List, length, drop, replicate, Option, Some, None, refl, sym, ap, ◌∙◌, arith}
use Rattle.std.specs.Prelude.{nat_le, nat_lt, position}
use Rattle.std.specs.List.{position_or_len}
use Rattle.std.proofs.lemmas.Bool.{lt-ltb, ltb-true, leb-false, lt-leb}
use Rattle.std.proofs.lemmas.List.{drop-replicate}
use Rattle.omi_numbers.specs.declared.limits.TheConstants.{OPEN_GROUPS}
use Rattle.omi_script.specs.Bodies.{named_by}
use Rattle.omi_script.specs.LineFaults.{is_task_with_barrier, is_too_deep, nests_barrier}
use Rattle.omi_script.specs.Reach.{Reach, is_above, names_rightly, reach_at}
use Rattle.omi_script.specs.declared.limits.TheConstants.{MAX_DEPTH, MAX_NAME}
use Rattle.omi_script.specs.declared.statement.Stmt.{Stmt}
use Rattle.omi_script.specs.declared.statement.Stmt.TheVariants.{Parallel, Task, Critical, Call, Only, Repeat, Taskgroup}
use Rattle.omi_script.proofs.Conjunctions.{and_left, and_right, and_true, not_so}

-- a place that is found is one of the list
pub position_within : {A : Type 0} (p : A → Bool) (xs : List A) (f : ℕ) → position p xs ≡ Some f
    → f < length xs
position_within p xs f e = by_test (nat_lt (position_or_len p xs) (length xs)) refl
  where
    by_test : (b : Bool) → nat_lt (position_or_len p xs) (length xs) ≡ b → f < length xs
    by_test true h =
        let found : Some (position_or_len p xs) ≡ Some f =
        sym (ap (λ b. cond b (Some (position_or_len p xs)) None) h) ∙ e in
        let same : position_or_len p xs ≡ f = cc found in
        let within : position_or_len p xs < length xs = ltb-true (position_or_len p xs) (length xs) h in
        omega arith
    by_test false h =
        let found : None ≡ Some f = sym (ap (λ b. cond b (Some (position_or_len p xs)) None) h) ∙ e in
        absurd (cc found)

-- the function that is named, if one is, is one of the first n
abbrev pub IsBelow : ℕ → Option ℕ → Type 0
IsBelow n None = Unit {0}
IsBelow n (Some f) = f < n

-- a depth that isn't the greatest or more
not_deep : (d : ℕ) → nat_le MAX_DEPTH d ≡ false → nat_lt d MAX_DEPTH ≡ true
not_deep d h = let l : d < MAX_DEPTH = leb-false MAX_DEPTH d h in lt-ltb d MAX_DEPTH l

not_group_deep : (d : ℕ) → nat_le OPEN_GROUPS d ≡ false → nat_lt d OPEN_GROUPS ≡ true
not_group_deep d h = let l : d < OPEN_GROUPS = leb-false OPEN_GROUPS d h in lt-ltb d OPEN_GROUPS l

-- a statement without a fault names what it may
pub rightly_named : (above : List Reach) (s : Stmt) → IsBelow (length above) (named_by s)
    → is_task_with_barrier above s ≡ false → nests_barrier above s ≡ false → is_too_deep above s ≡ false
    → names_rightly above s ≡ true
rightly_named above (Parallel f num) l a b c =
    and_true (is_above above f) (nat_lt (reach_at above f).depth MAX_DEPTH) (lt-ltb f (length above) l)
    (not_deep (reach_at above f).depth c)
rightly_named above (Task f undeferred is_final) l a b c =
    and_true (is_above above f) (not (reach_at above f).barrier) (lt-ltb f (length above) l) (ap not a)
rightly_named above (Critical k f) l a b c =
    and_true (is_above above f) (not (reach_at above f).barrier) (lt-ltb f (length above) l) (ap not b)
rightly_named above (Only m f) l a b c =
    and_true (is_above above f) (not (reach_at above f).barrier) (lt-ltb f (length above) l) (ap not b)
rightly_named above (Taskgroup f) l a b c =
    and_true (is_above above f && not (reach_at above f).barrier) (nat_lt (reach_at above f).groups OPEN_GROUPS)
    (and_true (is_above above f) (not (reach_at above f).barrier) (lt-ltb f (length above) l) (ap not b))
    (not_group_deep (reach_at above f).groups c)
rightly_named above (Call f) l a b c = lt-ltb f (length above) l
rightly_named above (Repeat n f) l a b c = lt-ltb f (length above) l
rightly_named above s l a b c = refl

-- a statement names a function above
pub named_above : (above : List Reach) (s : Stmt) → names_rightly above s ≡ true
    → IsBelow (length above) (named_by s)
named_above above (Parallel f num) h =
    ltb-true f (length above) (and_left (is_above above f) (nat_lt (reach_at above f).depth MAX_DEPTH) h)
named_above above (Task f undeferred is_final) h =
    ltb-true f (length above) (and_left (is_above above f) (not (reach_at above f).barrier) h)
named_above above (Critical k f) h =
    ltb-true f (length above) (and_left (is_above above f) (not (reach_at above f).barrier) h)
named_above above (Taskgroup f) h =
    ltb-true f (length above)
    (and_left (is_above above f) (not (reach_at above f).barrier)
    (and_left (is_above above f && not (reach_at above f).barrier) (nat_lt (reach_at above f).groups OPEN_GROUPS) h))
named_above above (Call f) h = ltb-true f (length above) h
named_above above (Only m f) h =
    ltb-true f (length above) (and_left (is_above above f) (not (reach_at above f).barrier) h)
named_above above (Repeat n f) h = ltb-true f (length above) h
named_above above s h = tt

-- it makes no task of a function that reaches a barrier
pub rightly_no_task : (above : List Reach) (s : Stmt) → names_rightly above s ≡ true
    → is_task_with_barrier above s ≡ false
rightly_no_task above (Task f undeferred is_final) h =
    not_so (reach_at above f).barrier (and_right (is_above above f) (not (reach_at above f).barrier) h)
rightly_no_task above s h = refl

-- it nests no barrier
pub rightly_no_nest : (above : List Reach) (s : Stmt) → names_rightly above s ≡ true
    → nests_barrier above s ≡ false
rightly_no_nest above (Critical k f) h =
    not_so (reach_at above f).barrier (and_right (is_above above f) (not (reach_at above f).barrier) h)
rightly_no_nest above (Only m f) h =
    not_so (reach_at above f).barrier (and_right (is_above above f) (not (reach_at above f).barrier) h)
rightly_no_nest above (Taskgroup f) h =
    not_so (reach_at above f).barrier
    (and_right (is_above above f) (not (reach_at above f).barrier)
    (and_left (is_above above f && not (reach_at above f).barrier) (nat_lt (reach_at above f).groups OPEN_GROUPS) h))
rightly_no_nest above s h = refl

-- it nests no region too deep
pub rightly_not_deep : (above : List Reach) (s : Stmt) → names_rightly above s ≡ true
    → is_too_deep above s ≡ false
rightly_not_deep above (Parallel f num) h =
    lt-leb MAX_DEPTH (reach_at above f).depth
    (ltb-true (reach_at above f).depth MAX_DEPTH (and_right (is_above above f) (nat_lt (reach_at above f).depth MAX_DEPTH) h))
rightly_not_deep above (Taskgroup f) h =
    lt-leb OPEN_GROUPS (reach_at above f).groups
    (ltb-true (reach_at above f).groups OPEN_GROUPS (and_right (is_above above f && not (reach_at above f).barrier) (nat_lt (reach_at above f).groups OPEN_GROUPS) h))
rightly_not_deep above s h = refl

-- what stands after the first bytes of zeros
pub zeros_behind : (n : ℕ) → drop {A = ℕ} n (replicate MAX_NAME 0) ≡ replicate (MAX_NAME - n) 0
zeros_behind n = drop-replicate n MAX_NAME 0
