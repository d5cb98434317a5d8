-- Functions by their numbers: their names, their statements, and the functions that those name.
use Rattle.std.specs.Prelude.{◌≡◌, ℕ, List, [], slice_get, Option, Some, None}
use Rattle.std.specs.Option.{option_map_or}
use Rattle.omi_script.specs.Names.{text_of}
use Rattle.omi_script.specs.declared.function.Func.{Func}
use Rattle.omi_script.specs.declared.statement.Stmt.{Stmt}
use Rattle.omi_script.specs.declared.statement.Stmt.TheVariants.{Parallel, Task, Critical, Call, Only, Repeat, Taskgroup}

-- the name of the function with a number, none past the last
abbrev pub name_at : List Func → ℕ → List ℕ
name_at funcs f = option_map_or (λ g. text_of g.name) (slice_get funcs f) []

-- the statements of the function with a number, none past the last
abbrev pub body_of : List Func → ℕ → List Stmt
body_of funcs f = option_map_or (λ g. g.body) (slice_get funcs f) []

-- the statement stands in the function with this number
abbrev pub HasStatement : List Func → ℕ → Stmt → Type 0
HasStatement funcs f s = (k : ℕ) × (slice_get (body_of funcs f) k ≡ Some s)

-- the number of the function that a statement names, if it names one
abbrev pub named_by : Stmt → Option ℕ
named_by (Parallel f num) = Some f
named_by (Task f undeferred is_final) = Some f
named_by (Critical k f) = Some f
named_by (Taskgroup f) = Some f
named_by (Call f) = Some f
named_by (Only m f) = Some f
named_by (Repeat n f) = Some f
named_by _ = None
