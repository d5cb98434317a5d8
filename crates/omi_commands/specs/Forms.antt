-- What the values of options are to be that several programs have.
use Rattle.std.specs.Prelude.{[], ◌∷◌, codes}
use Rattle.omi_usage.specs.Form.{Want, Number, OneOf}
use Rattle.omi_commands.specs.declared.limits.TheConstants.{MOST_LAYOUT}

-- the name of a breakpoint
abbrev pub a_breakpoint : Want
a_breakpoint =
    OneOf (codes "parallel_begin" ∷ codes "parallel_end" ∷ codes "task_begin" ∷ codes "task_end" ∷ codes "thread_begin" ∷ [])

-- the number of a layout
abbrev pub a_layout : Want
a_layout = Number 0 MOST_LAYOUT
