-- A run by a schedule over whatever makes its steps. No public clause cites this.
use Rattle.std.specs.Prelude.{◌≡◌, ℕ, Option, Result, MatchResult}
use Rattle.std.specs.declared.alloc.AllocError.{AllocError}
use Rattle.omi_core.specs.declared.entry.Entry.{Entry}
use Rattle.omi_core.specs.declared.schedule.Schedule.{Schedule}
use Rattle.omi_core.specs.declared.stepper.Judged.{Judged}
use Rattle.omi_core.specs.declared.stop.Break.{Break}
use Rattle.omi_core.specs.declared.stop.End.{End}
use Rattle.omi_core.specs.declared.stop.Stop.{Stop}
use Rattle.omi_core.specs.Ends.{end_at, met_at}
use Rattle.omi_core.specs.RunSteps.{IsStep}
use Rattle.omi_core.specs.Runs.{Run}
use Rattle.omi_core.specs.ScheduledRuns.{IsRunBy}

-- a step of a thread of a run leads to one that stands so, and is judged by what came of it
pub record IsJudged (a : Run) (i : ℕ) (on : Option (Break × ℕ)) (met : ℕ) (stands : Run → Type 0)
    (judged : Judged) : Type 0 where
  pub entry : Entry
  pub next : Run
  pub step : IsStep a i entry next
  pub end_is : judged.end ≡ end_at on met entry.outcome
  pub met_is : judged.met ≡ met_at on met entry.outcome
  pub stands_behind : stands next

-- a run by a schedule leads from one to another, which stands so, and where memory was wanting is left so
pub record IsRunOn (old : Run) (how : Schedule) (stop : Stop) (result : Result End AllocError)
    (stands left : Run → Type 0) : Type 0 where
  pub new : Run
  pub run : IsRunBy old how stop result new
  pub behind : MatchResult result (λ why. stands new) (λ none. left new)
