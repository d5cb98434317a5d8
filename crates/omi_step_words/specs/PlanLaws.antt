-- The law of plans: the stores that fill a record go up through its fields, so no word is stored twice.
use Rattle.std.specs.Prelude.{ℕ, ◌+◌, ◌*◌, ◌<◌, List}
use Rattle.omi_layout.specs.Named.{number}
use Rattle.omi_pc.specs.declared.limits.TheConstants.{REGION_WORDS, TASK_WORDS}
use Rattle.omi_step_words.specs.declared.plan.NewRegion.{NewRegion}
use Rattle.omi_step_words.specs.declared.plan.NewTask.{NewTask}
use Rattle.omi_step_words.specs.declared.plan.Planned.{Planned}
use Rattle.omi_step_words.specs.Plan.{region_plan, task_plan}

-- where a word stands in the order of the fields and of the places in them. No field but the team and the last one has more than four words
abbrev pub rank : Planned → ℕ
rank x = 4 * number x.field + x.at

abbrev pub RegionStoresGoUp : Type 0
RegionStoresGoUp =
    (w : List ℕ) (n : NewRegion) (j k : ℕ) → j < k → k < REGION_WORDS
    → rank (region_plan w n j) < rank (region_plan w n k)

abbrev pub TaskStoresGoUp : Type 0
TaskStoresGoUp =
    (w : List ℕ) (t : NewTask) (j k : ℕ) → j < k → k < TASK_WORDS
    → rank (task_plan w t j) < rank (task_plan w t k)
