-- Parts of the look at a region and at a task.
use Rattle.std.specs.Prelude.{ℕ, List, Ok}
use Rattle.omi_layout.specs.declared.field.Field.TheVariants.{RegionSize, TaskExit, TaskEnter}
use Rattle.omi_layout.specs.Field.{regions}
use Rattle.omi_word.specs.Words.{Words}
use Rattle.omi_layout.specs.Table.{thread_count}
use Rattle.omi_model.specs.declared.id.Id.{Id}
use Rattle.omi_rep.specs.Look.{Look, and_then, id_address}
use Rattle.omi_rep.specs.LookView.{look_within, read_task}

module _ (w : List ℕ) (memory : Words) where
  -- the number of members of a region
  abbrev pub look_size : Id → Look ℕ
  look_size n = look_within w memory (id_address w regions n) RegionSize 1 (thread_count w)

  -- the exit frame and the enter frame of a task
  abbrev pub look_frames : Id → Look (ℕ × ℕ)
  look_frames k =
      and_then (read_task w memory k TaskExit)
      (λ exit. and_then (read_task w memory k TaskEnter) (λ enter. Ok (exit, enter)))
