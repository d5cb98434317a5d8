-- Statements over a function, without that function.
use Rattle.std.specs.Prelude.{ℕ}
use Rattle.omi_script.specs.declared.statement.Construct.{Construct}
use Rattle.omi_script.specs.declared.statement.Construct.TheVariants.{Parallel, Task, Critical, Call, Only, Repeat, Taskgroup}
use Rattle.omi_script.specs.declared.statement.Stmt.{Stmt}
use Rattle.omi_script.specs.declared.statement.Stmt.TheVariants as stmt

-- the statement over the function with a number
abbrev pub over : Construct → ℕ → Stmt
over (Parallel num) f = stmt.Parallel f num
over (Task undeferred is_final) f = stmt.Task f undeferred is_final
over (Critical k) f = stmt.Critical k f
over Taskgroup f = stmt.Taskgroup f
over Call f = stmt.Call f
over (Only m) f = stmt.Only m f
over (Repeat n) f = stmt.Repeat n f
