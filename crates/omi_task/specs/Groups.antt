-- The group of a task that is made, and the innermost one that the current task has open, by their words.
use Rattle.std.specs.Prelude.{ℕ, ◌==◌, ◌+◌, ◌-◌, List, if◌then◌else◌}
use Rattle.omi_rep.specs.Records.{task_address}
use Rattle.omi_pc.specs.declared.actor.Actor.{Actor}
use Rattle.omi_step_words.specs.Words.{of_count}

-- the index of the innermost group
abbrev pub innermost_index : Actor → ℕ
innermost_index a = a.context.open_groups - 1

-- the word that stands for it, and the address of its count
abbrev pub innermost_word : List ℕ → Actor → ℕ
innermost_word w a = task_address w a.context.task + innermost_index a

abbrev pub of_innermost_count : List ℕ → Actor → ℕ
of_innermost_count w a = of_count w a.context.task (innermost_index a)

-- the word of a new task's group: the innermost one, and the current task's own where it has none open
abbrev pub new_group : List ℕ → Actor → ℕ
new_group w a = if a.context.open_groups == 0 then a.gathered.group else innermost_word w a
