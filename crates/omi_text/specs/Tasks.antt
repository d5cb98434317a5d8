-- The two lines of a task: the task, and its data environment.
use Rattle.std.specs.Prelude.{ℕ, ◌==◌, List, [], ◌∷◌, ◌++◌, codes, if◌then◌else◌}
use Rattle.std.specs.Fmt.{decimal}
use Rattle.omi_script.specs.Schedules.{kind_in, chunk_in}
use Rattle.omi_model.specs.declared.view.TaskRow.{TaskRow}
use Rattle.omi_text.specs.Ids.{region_id, task_id}
use Rattle.omi_text.specs.Lines.{line, named_value, or_none}
use Rattle.omi_text.specs.Names.{kind_text}
use Rattle.omi_text.specs.Numbers.{hexadecimal, decimals}

-- implicit or explicit
abbrev pub task_kind : ℕ → List ℕ
task_kind implicit = if implicit == 0 then codes "explicit" else codes "implicit"

-- the schedule of a word: kind and chunk, joined by a comma
unfoldable pub schedule_text : ℕ → List ℕ
schedule_text word = kind_text (kind_in word) ++ 44 ∷ decimal (chunk_in word)

-- task K thread I kind W region R function F generating G scheduling H exit X enter Y tool Z
unfoldable pub task_line : TaskRow → List ℕ
task_line t = line
    (codes "task" ∷ task_id t.task
    ∷ codes "thread" ∷ decimal t.thread
    ∷ codes "kind" ∷ task_kind t.implicit
    ∷ codes "region" ∷ region_id t.region
    ∷ codes "function" ∷ hexadecimal t.func
    ∷ codes "generating" ∷ or_none task_id t.generating
    ∷ codes "scheduling" ∷ or_none task_id t.scheduling
    ∷ codes "exit" ∷ hexadecimal t.exit
    ∷ codes "enter" ∷ hexadecimal t.enter
    ∷ codes "tool" ∷ decimal t.tool
    ∷ [])

-- icv dyn-var=D nthreads-var=L run-sched-var=S default-device-var=V final-task-var=B implicit-task-var=C
unfoldable pub environment_line : TaskRow → List ℕ
environment_line t = line
    (codes "icv"
    ∷ named_value (codes "dyn-var") (decimal t.dyn_var)
    ∷ named_value (codes "nthreads-var") (decimals t.nthreads)
    ∷ named_value (codes "run-sched-var") (schedule_text t.sched)
    ∷ named_value (codes "default-device-var") (decimal t.device)
    ∷ named_value (codes "final-task-var") (decimal t.final_task)
    ∷ named_value (codes "implicit-task-var") (decimal t.implicit)
    ∷ [])

-- a task, and then its data environment
abbrev pub task_lines : TaskRow → List ℕ
task_lines t = task_line t ++ environment_line t
