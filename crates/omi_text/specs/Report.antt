-- The text of a report.
use Rattle.std.specs.Prelude.{ℕ, List, ◌++◌}
use Rattle.std.specs.List.{flat_map}
use Rattle.omi_model.specs.declared.view.View.{View}
use Rattle.omi_text.specs.Head.{head_lines}
use Rattle.omi_text.specs.Threads.{context_line}
use Rattle.omi_text.specs.Regions.{region_lines}
use Rattle.omi_text.specs.Tasks.{task_lines}

-- the header lines, the contexts, the regions with their members, and the tasks
abbrev pub report : View → List ℕ
report v =
    head_lines v.head
    ++ (flat_map context_line v.threads
    ++ (flat_map region_lines v.regions
    ++ flat_map task_lines v.tasks))
