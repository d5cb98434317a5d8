-- The native ids in the records of threads, as a plain look at the words gives them.
use Rattle.std.specs.Prelude.{◌==◌, ℕ, List, Option, Some, None, Ok, if◌then◌else◌}
use Rattle.std.specs.List.{filter_map, range_with_len}
use Rattle.omi_layout.specs.declared.field.Field.TheVariants.{ThreadLife, ThreadNative}
use Rattle.omi_layout.specs.Table.{thread_count}
use Rattle.omi_rep.specs.Look.{Look, and_then, each, mapped}
use Rattle.omi_rep.specs.LookView.{read_thread}
use Rattle.omi_word.specs.Words.{Words}

module _ (w : List ℕ) (words : Words) where
  -- that of a thread, if it has begun
  abbrev pub look_id : ℕ → Look (Option ℕ)
  look_id i =
      and_then (read_thread w words i ThreadLife) (λ life. if life == 1
      then mapped (λ id. Some id) (read_thread w words i ThreadNative) else Ok None)

  -- those of all threads that have begun, in the order of the threads' numbers
  abbrev pub look_recorded : Look (List ℕ)
  look_recorded = mapped (filter_map (λ id. id)) (each look_id (range_with_len 0 (thread_count w)))
