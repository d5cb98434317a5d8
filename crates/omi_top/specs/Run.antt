-- A run of a program for `stop`: steps of its threads in the order that the plan says, from the opening words and the opening state on,
-- how they end, and what the last words show. The words are those of a layout, `w`.
use Rattle.std.specs.Prelude.{◌≡◌, ◌≤◌, ℕ, List, length, Option, Some, None}
use Rattle.omi_script.specs.declared.program.Program.{Program}
use Rattle.omi_model.specs.Reached.{Reached}
use Rattle.omi_model.specs.State.{State}
use Rattle.omi_word.specs.Words.{words_of}
use Rattle.omi_rep.specs.Shows.{Shows}
use Rattle.omi_core.specs.declared.entry.Entry.{Entry}
use Rattle.omi_core.specs.declared.schedule.Schedule.{Schedule}
use Rattle.omi_core.specs.declared.schedule.Schedule.TheVariants.{RoundRobin, Seed}
use Rattle.omi_core.specs.declared.stop.End.{End}
use Rattle.omi_core.specs.Ends.{IsEnded}
use Rattle.omi_core.specs.Found.{MakeNext}
use Rattle.omi_core.specs.Histories.{Counts}
use Rattle.omi_core.specs.Runs.{events_in}
use Rattle.omi_core.specs.Schedules.{threads_by}
use Rattle.omi_core.specs.Steps.{AreStepsOf, events_behind, steps_of, threads_of_steps}
use Rattle.omi_top.specs.declared.plan.Plan.{Plan}

-- the threads make the steps in turn, from thread 0 on, or by pseudo-random numbers from a seed on
abbrev pub thread_schedule : Option ℕ → Schedule
thread_schedule None = RoundRobin
thread_schedule (Some seed) = Seed seed

-- A run of a program by a plan: each entry is a thread and the step that it made. Each step is the one that its thread makes next. The
-- steps are legal, event by event, and lead from the opening words to the last words and from the opening state to the state that these
-- show. No thread makes too many quiet steps in a row, each searches its records one after the other, and each looks at all slots of its
-- team before it waits where deferred tasks may start. They end at `done`, at the event at which the plan stops, or else after as many steps as it has
pub record IsRun (w : List ℕ) (p : Program) (plan : Plan) (xs : List (ℕ × Entry)) (why : End)
    (words : List ℕ) (s : State) : Type 0 where
  pub steps : AreStepsOf p w xs words s
  pub follow : (i : ℕ) → MakeNext p w i (steps_of i xs)
  pub threads : threads_of_steps xs ≡ threads_by (thread_schedule plan.seed) p.threads (length xs)
  pub few : length xs ≤ plan.stop.steps
  pub ended : IsEnded plan.stop (length xs) (length xs) (events_behind 0 xs) why
  pub reached : Reached p (events_in (events_behind 0 xs)) s
  pub shows : Shows w (words_of words) s
  pub counts : Counts w words s
