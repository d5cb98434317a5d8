-- The table of threads: a line for each context of a report.
use Rattle.std.specs.Prelude.{◌==◌, ℕ, List, [], ◌∷◌, codes, map, replicate, Option, Some, None, if◌then◌else◌}
use Rattle.std.specs.Option.{option_map}
use Rattle.std.specs.Fmt.{decimal}
use Rattle.omi_model.specs.declared.id.Tid.{Tid}
use Rattle.omi_model.specs.declared.view.RegionRow.{RegionRow}
use Rattle.omi_model.specs.declared.view.TaskRow.{TaskRow}
use Rattle.omi_model.specs.declared.view.ThreadPart.{ThreadPart}
use Rattle.omi_model.specs.declared.view.ThreadRow.{ThreadRow}
use Rattle.omi_model.specs.declared.view.View.{View}
use Rattle.omi_text.specs.Ids.{task_id}
use Rattle.omi_text.specs.Numbers.{hexadecimal}
use Rattle.omi_text.specs.Threads.{shown_state}
use Rattle.omi_listing.specs.Cells.{or_dash}
use Rattle.omi_listing.specs.Named.{row_named}
use Rattle.omi_listing.specs.Table.{table_text}

-- a thread's current task, and the region of it
abbrev pub task_of : View → Option Tid → Option TaskRow
task_of view None = None
task_of view (Some task) = row_named (λ (row : TaskRow). row.task.0) view.tasks task.0

abbrev pub region_of : View → Option TaskRow → Option RegionRow
region_of view None = None
region_of view (Some task) = row_named (λ (row : RegionRow). row.region.0) view.regions task.region.0

-- what a thread waits for, if it waits for anything
abbrev pub waited_for : Option (ℕ × ℕ) → Option ℕ
waited_for None = None
waited_for (Some s) = if s.1 == 0 then None else Some s.1

abbrev pub heading : List (List ℕ)
heading = codes "ID" ∷ codes "STATE" ∷ codes "WAIT" ∷ codes "NUM" ∷ codes "TEAM" ∷ codes "LEVEL" ∷ codes "TASK" ∷ codes "FUNCTION" ∷ []

-- the size and the level of a thread's team, its current task and the task's function
abbrev pub task_cells : View → ThreadPart → List (List ℕ)
task_cells view t =
    let task = task_of view t.current in
    let region = region_of view task in
    or_dash decimal (option_map (λ (r : RegionRow). r.size) region)
    ∷ or_dash decimal (option_map (λ (r : RegionRow). r.levels) region)
    ∷ or_dash task_id t.current
    ∷ or_dash hexadecimal (option_map (λ (k : TaskRow). k.func) task)
    ∷ []

-- a thread: its native id, its state, what it waits for, its number in its team, and these
abbrev pub thread_cells : View → ℕ → ThreadPart → List (List ℕ)
thread_cells view native t =
    decimal native
    ∷ shown_state t.state
    ∷ or_dash hexadecimal (waited_for t.state)
    ∷ or_dash decimal t.number
    ∷ task_cells view t

-- a context that is no thread's which has begun has its id alone
abbrev pub bare_cells : ℕ → List (List ℕ)
bare_cells native = decimal native ∷ replicate 7 (codes "-")

abbrev pub cells_of : View → ℕ → Option ThreadPart → List (List ℕ)
cells_of view native None = bare_cells native
cells_of view native (Some t) = thread_cells view native t

abbrev pub context_cells : View → ThreadRow → List (List ℕ)
context_cells view row = cells_of view row.native row.found

abbrev pub threads_table : View → List (List (List ℕ))
threads_table view = heading ∷ map (context_cells view) view.threads

abbrev pub threads_text : View → List ℕ
threads_text view = table_text (threads_table view)
