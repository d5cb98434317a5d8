-- Parts of lines, as lists of words, which private functions add one after the other. Nothing here is to be believed: the lines stand whole in their own files.
use Rattle.std.specs.Prelude.{ℕ, List, [], ◌∷◌, ◌++◌, codes, Option}
use Rattle.std.specs.Fmt.{decimal}
use Rattle.omi_model.specs.declared.view.RegionRow.{RegionRow}
use Rattle.omi_model.specs.declared.view.TaskRow.{TaskRow}
use Rattle.omi_model.specs.declared.view.ThreadPart.{ThreadPart}
use Rattle.omi_text.specs.Ids.{region_id, task_id}
use Rattle.omi_text.specs.Lines.{named_value, or_none}
use Rattle.omi_text.specs.Numbers.{hexadecimal, decimals}
use Rattle.omi_text.specs.Tasks.{schedule_text, task_kind}
use Rattle.omi_text.specs.Threads.{shown_state, shown_wait}

-- a part of a line that goes on: words, each with a space behind it
abbrev pub spaced : List (List ℕ) → List ℕ
spaced [] = []
spaced (word ∷ words) = word ++ 32 ∷ spaced words

-- ---- of a thread

-- thread I native N
unfoldable pub thread_name : ℕ → ThreadPart → List (List ℕ)
thread_name native t =
    codes "thread" ∷ decimal t.thread ∷ codes "native" ∷ decimal native ∷ []

-- state NAME wait W
unfoldable pub thread_state : Option (ℕ × ℕ) → List (List ℕ)
thread_state state =
    codes "state" ∷ shown_state state ∷ codes "wait" ∷ shown_wait state ∷ []

-- thread-num-var=V current K
unfoldable pub thread_task : ThreadPart → List (List ℕ)
thread_task t =
    named_value (codes "thread-num-var") (or_none decimal t.number) ∷ codes "current"
    ∷ or_none task_id t.current ∷ []

-- ---- of a region

-- region R function F
unfoldable pub region_name : RegionRow → List (List ℕ)
region_name r =
    codes "region" ∷ region_id r.region ∷ codes "function" ∷ hexadecimal r.func ∷ []

-- levels-var=L active-levels-var=A team-size-var=S
unfoldable pub region_variables : RegionRow → List (List ℕ)
region_variables r =
    named_value (codes "levels-var") (decimal r.levels)
    ∷ named_value (codes "active-levels-var") (decimal r.active)
    ∷ named_value (codes "team-size-var") (decimal r.size)
    ∷ []

-- enclosing E
unfoldable pub region_around : RegionRow → List (List ℕ)
region_around r =
    codes "enclosing" ∷ or_none region_id r.enclosing ∷ []

-- ---- of a task

-- task K thread I kind W
unfoldable pub task_name : TaskRow → List (List ℕ)
task_name t =
    codes "task" ∷ task_id t.task ∷ codes "thread" ∷ decimal t.thread ∷ codes "kind"
    ∷ task_kind t.implicit ∷ []

-- region R function F
unfoldable pub task_region : TaskRow → List (List ℕ)
task_region t =
    codes "region" ∷ region_id t.region ∷ codes "function" ∷ hexadecimal t.func ∷ []

-- generating G scheduling H
unfoldable pub task_ancestors : TaskRow → List (List ℕ)
task_ancestors t =
    codes "generating" ∷ or_none task_id t.generating ∷ codes "scheduling"
    ∷ or_none task_id t.scheduling ∷ []

-- exit X enter Y tool Z
unfoldable pub task_frames : TaskRow → List (List ℕ)
task_frames t =
    codes "exit" ∷ hexadecimal t.exit ∷ codes "enter" ∷ hexadecimal t.enter ∷ codes "tool"
    ∷ decimal t.tool ∷ []

-- icv dyn-var=D
unfoldable pub dynamic_variable : TaskRow → List (List ℕ)
dynamic_variable t =
    codes "icv" ∷ named_value (codes "dyn-var") (decimal t.dyn_var) ∷ []

-- nthreads-var=L run-sched-var=S
unfoldable pub list_variables : TaskRow → List (List ℕ)
list_variables t =
    named_value (codes "nthreads-var") (decimals t.nthreads)
    ∷ named_value (codes "run-sched-var") (schedule_text t.sched) ∷ []

-- default-device-var=V final-task-var=B implicit-task-var=C
unfoldable pub task_variables : TaskRow → List (List ℕ)
task_variables t =
    named_value (codes "default-device-var") (decimal t.device)
    ∷ named_value (codes "final-task-var") (decimal t.final_task)
    ∷ named_value (codes "implicit-task-var") (decimal t.implicit)
    ∷ []
