-- What a function reaches: barriers, nested parallel regions and nested taskgroup regions. It is told of each function in
-- order, from what is known of those above it.
use Rattle.std.specs.Prelude.{ℕ, Bool, true, false, not, ◌&&◌, nat_lt, ◌+◌, max, List, [], ◌∷◌, ◌++◌, length, slice_index_or, map}
use Rattle.std.specs.List.{list_all, list_any}
use Rattle.omi_numbers.specs.declared.limits.TheConstants.{OPEN_GROUPS}
use Rattle.omi_script.specs.Ranges.{is_in_range}
use Rattle.omi_script.specs.declared.function.Func.{Func}
use Rattle.omi_script.specs.declared.limits.TheConstants.{MAX_DEPTH}
use Rattle.omi_script.specs.declared.statement.Stmt.{Stmt}
use Rattle.omi_script.specs.declared.statement.Stmt.TheVariants.{Parallel, Task, Barrier, Critical, Call, Only, Repeat, Taskgroup}

-- what is known of a function: whether it reaches a barrier, how deep its parallel regions are
-- nested, and how deep its taskgroup regions
pub record Reach : Type 0 where
  pub barrier : Bool
  pub depth : ℕ
  pub groups : ℕ

-- the function with a number, of those that are closed
abbrev pub reach_at : List Reach → ℕ → Reach
reach_at above f = slice_index_or above f (record { barrier = false; depth = 0; groups = 0 })

-- a statement reaches a barrier: it is one, or it is `call`, `only`, `critical`, `repeat` or
-- `taskgroup` of a function that does
abbrev pub reaches_barrier : List Reach → Stmt → Bool
reaches_barrier above Barrier = true
reaches_barrier above (Call f) = (reach_at above f).barrier
reaches_barrier above (Only m f) = (reach_at above f).barrier
reaches_barrier above (Critical k f) = (reach_at above f).barrier
reaches_barrier above (Repeat n f) = (reach_at above f).barrier
reaches_barrier above (Taskgroup f) = (reach_at above f).barrier
reaches_barrier above _ = false

-- how deep a statement nests parallel regions
abbrev pub depth_of : List Reach → Stmt → ℕ
depth_of above (Parallel f num) = (reach_at above f).depth + 1
depth_of above (Task f undeferred is_final) = (reach_at above f).depth
depth_of above (Call f) = (reach_at above f).depth
depth_of above (Only m f) = (reach_at above f).depth
depth_of above (Critical k f) = (reach_at above f).depth
depth_of above (Repeat n f) = (reach_at above f).depth
depth_of above (Taskgroup f) = (reach_at above f).depth
depth_of above _ = 0

-- how deep a statement nests taskgroup regions of one task
abbrev pub group_depth_of : List Reach → Stmt → ℕ
group_depth_of above (Taskgroup f) = (reach_at above f).groups + 1
group_depth_of above (Call f) = (reach_at above f).groups
group_depth_of above (Only m f) = (reach_at above f).groups
group_depth_of above (Critical k f) = (reach_at above f).groups
group_depth_of above (Repeat n f) = (reach_at above f).groups
group_depth_of above _ = 0

-- the greatest of the numbers
abbrev pub greatest : List ℕ → ℕ
greatest [] = 0
greatest (n ∷ ns) = max n (greatest ns)

-- what a function reaches by its statements
abbrev pub reach_of : List Reach → List Stmt → Reach
reach_of above body =
    record {
      barrier = list_any (reaches_barrier above) body;
      depth = greatest (map (depth_of above) body);
      groups = greatest (map (group_depth_of above) body);
    }

-- what is known of functions, from what is known of those above them
abbrev pub reaches : List Reach → List Func → List Reach
reaches above [] = above
reaches above (f ∷ fs) = reaches (above ++ reach_of above f.body ∷ []) fs

-- what the function with a number reaches
abbrev pub reach_in : List Func → ℕ → Reach
reach_in funcs f = reach_at (reaches [] funcs) f

-- the function is closed above
abbrev pub is_above : List Reach → ℕ → Bool
is_above above f = nat_lt f (length above)

-- the function is closed above, and reaches no barrier
abbrev pub is_above_without_barrier : List Reach → ℕ → Bool
is_above_without_barrier above f = is_above above f && not (reach_at above f).barrier

-- a statement names only what it may: functions above, for `task`, `only`, `critical` and
-- `taskgroup` without a barrier, for `parallel` of a depth below the greatest, and for `taskgroup`
-- of a group depth below the greatest
abbrev pub names_rightly : List Reach → Stmt → Bool
names_rightly above (Parallel f num) = is_above above f && nat_lt (reach_at above f).depth MAX_DEPTH
names_rightly above (Task f undeferred is_final) = is_above_without_barrier above f
names_rightly above (Critical k f) = is_above_without_barrier above f
names_rightly above (Only m f) = is_above_without_barrier above f
names_rightly above (Taskgroup f) =
    is_above_without_barrier above f && nat_lt (reach_at above f).groups OPEN_GROUPS
names_rightly above (Call f) = is_above above f
names_rightly above (Repeat n f) = is_above above f
names_rightly above _ = true

-- a statement may stand in a function
abbrev pub is_allowed : List Reach → Stmt → Bool
is_allowed above s = is_in_range s && names_rightly above s

-- each statement of each function may stand where it does
abbrev pub are_allowed : List Reach → List (List Stmt) → Bool
are_allowed above [] = true
are_allowed above (body ∷ bodies) =
    list_all (is_allowed above) body && are_allowed (above ++ reach_of above body ∷ []) bodies
