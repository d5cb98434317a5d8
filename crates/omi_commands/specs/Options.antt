-- Options that several programs have.
use Rattle.std.specs.Prelude.{◌||◌, ℕ, Bool, List, Option, Some, None, codes, bytes_eq, if◌then◌else◌, is_some}
use Rattle.omi_line.specs.Number.{number_between}
use Rattle.omi_line.specs.declared.line.Line.{Line}
use Rattle.omi_core.specs.declared.stop.Break.{Break}
use Rattle.omi_core.specs.declared.stop.Break.TheVariants as kind
use Rattle.omi_commands.specs.declared.limits.TheConstants.{MOST_LAYOUT}

-- the kind of event that a breakpoint's name stands for
abbrev pub break_named : List ℕ → Option Break
break_named name =
    if bytes_eq name (codes "parallel_begin") then Some kind.ParallelBegin
    else (if bytes_eq name (codes "parallel_end") then Some kind.ParallelEnd
    else (if bytes_eq name (codes "task_begin") then Some kind.TaskBegin
    else (if bytes_eq name (codes "task_end") then Some kind.TaskEnd
    else (if bytes_eq name (codes "thread_begin") then Some kind.ThreadBegin else None))))

-- `--layout K`, with K 0 to 15, or family 0. None where the option is refused
abbrev pub layout_of : Option (List ℕ) → Option ℕ
layout_of None = Some 0
layout_of (Some layout) = number_between layout 0 MOST_LAYOUT

-- the line has an option
abbrev pub has_option : Line → Bool
has_option line = is_some line.seed || is_some line.on || is_some line.count || is_some line.layout
