-- A run that was made by a plan.
use Rattle.std.specs.Prelude.{ℕ, List}
use Rattle.omi_model.specs.declared.event.Event.{Event}
use Rattle.omi_core.specs.declared.stop.End.{End}
use Rattle.omi_core.specs.Recorded.{IsRecorded}
use Rattle.omi_layout.specs.Family.{IsFamily}
use Rattle.omi_layout.specs.Valid.{IsValid}
use Rattle.omi_script.specs.declared.program.Program.{Program}
use Rattle.omi_top.specs.declared.plan.Plan.{Plan}
use Rattle.omi_top.specs.Run.{thread_schedule}

-- From the opening of the program in the layout of the plan's family, steps of the plan's schedule led to a run with these words and so
-- many steps, which ended so, and what is recorded tells of its events
pub record IsRanBy (p : Program) (plan : Plan) (tells : List (ℕ × ℕ × Event) → Type 0)
    (words : List ℕ) (steps : ℕ) (why : End) : Type 0 where
  pub w : List ℕ
  pub valid : IsValid w
  pub family : IsFamily plan.layout p.threads w
  pub recorded : IsRecorded p w (thread_schedule plan.seed) plan.stop tells words steps why
