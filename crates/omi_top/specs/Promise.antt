-- The promise of the whole, alone: what `run` puts is the events of a run of the script's program, each by the thread whose turn it was and legal
-- in the state that those before it reach, how the run ended, and the report of the state that all of them reach.
use Rattle.std.specs.Prelude.{◌≡◌, ◌⊎◌, ◌≤◌, ◌+◌, ◌++◌, ℕ, List, [], ◌∷◌}
use Rattle.omi_script.specs.Grammar.{Grammar}
use Rattle.omi_script.specs.declared.program.Program.{Program}
use Rattle.omi_model.specs.declared.event.Event.{Event}
use Rattle.omi_model.specs.declared.view.View.{View}
use Rattle.omi_model.specs.Reached.{Reached}
use Rattle.omi_model.specs.State.{State}
use Rattle.omi_model.specs.Views.{IsViewOf}
use Rattle.omi_core.specs.declared.stop.End.{End}
use Rattle.omi_core.specs.Ends.{IsEnded}
use Rattle.omi_core.specs.Runs.{events_in}
use Rattle.omi_core.specs.Schedules.{threads_by}
use Rattle.omi_text.specs.Report.{report}
use Rattle.omi_commands.specs.Cores.{thread_ids}
use Rattle.omi_top.specs.declared.plan.Plan.{Plan}
use Rattle.omi_top.specs.Lines.{run_text}
use Rattle.omi_top.specs.Run.{thread_schedule}

-- Events, each with the number of its step and its thread, come in the turns of these threads, where the first turn is the step with this number: in
-- each turn its thread commits one event or none. So their numbers rise, and none is above that of the last turn
abbrev pub ComeInTurns : ℕ → List ℕ → List (ℕ × ℕ × Event) → Type 0
ComeInTurns step [] events = events ≡ []
ComeInTurns step (thread ∷ turns) events = ComeInTurns (step + 1) turns events
    ⊎ ((e : Event) × (later : List (ℕ × ℕ × Event)) × (events ≡ (step, thread, e) ∷ later)
    × ComeInTurns (step + 1) turns later)

pub record IsPromised (script : List ℕ) (plan : Plan) (put : List ℕ) : Type 0 where
  -- the script is the text of a program
  pub program : Program
  pub written : Grammar script program
  -- these events, each with the number of its step and its thread, are legal one after the other from the opening state on, and reach
  -- this state
  pub events : List (ℕ × ℕ × Event)
  pub state : State
  pub reached : Reached program (events_in events) state
  -- after so many steps the run ended, as the plan says
  pub steps : ℕ
  pub end : End
  pub few : steps ≤ plan.stop.steps
  pub ended : IsEnded plan.stop steps steps events end
  -- the events came in the turns that the plan gives to the program's threads, in turn or by its seed
  pub turns : ComeInTurns 1 (threads_by (thread_schedule plan.seed) program.threads steps) events
  -- this is what a tool may be shown of the state, for all threads
  pub view : View
  pub of_state : IsViewOf state (thread_ids program.threads) view
  -- what is put is the lines of the events, the end line, and the report
  pub is : put ≡ run_text events steps end ++ report view

-- Other clauses of `run_top` say what this leaves: by which steps the events came, each one operation on one word and the one that its
-- thread makes next, and in which order the threads made them; that the core holds the words behind these steps, and that these show the
-- state; what is left of files and of the output; and when each other status comes.
