-- A thread that goes to another counter: the same bodies are open, and it stands in the same task.
use Rattle.std.proofs.Common.{◌≡◌, ℕ, List, ◌∷◌, length, Some, sym, subst}
use Rattle.omi_script.specs.declared.program.Program.{Program}
use Rattle.omi_model.specs.declared.event.Event.{Event}
use Rattle.omi_model.specs.declared.task.Task.{Task}
use Rattle.omi_model.specs.State.{State, task_of}
use Rattle.omi_layout.specs.Memory.{Memory}
use Rattle.omi_pc.specs.declared.actor.Actor.{Actor}
use Rattle.omi_pc.specs.declared.counter.Counter.{Counter}
use Rattle.omi_pc.specs.declared.frame.Frame.{Frame}
use Rattle.omi_pc.specs.declared.gathered.Gathered.{Gathered}
use Rattle.omi_pc.specs.declared.limits.TheConstants.{VARIABLE_WORDS}
use Rattle.omi_pc.specs.Fits.{FitsCounter}
use Rattle.omi_step_words.specs.Placed.{IsPlacedCounter}
use Rattle.omi_rule.specs.Ahead.{IsAhead}
use Rattle.omi_rule.specs.Chains.{IsFront, StandsInTask, StandsWith, encounter_of}
use Rattle.omi_rule.specs.Rows.{KeepsRow}
use Rattle.omi_rule.specs.Rule.{HasEnded, KeepsThread}

pub same_bodies : (p : Program) (w : List ℕ) (m : Memory) (events : List (ℕ × Event)) (s : State) (i : ℕ) (a : Actor)
    → KeepsThread p w m events s i a → (f : Frame) (fs : List Frame) → a.stack ≡ f ∷ fs → StandsInTask p s i a
    → (n : Memory) (x : Counter) (g : Gathered) → length g.variables ≡ VARIABLE_WORDS → FitsCounter p (record a { counter = x; gathered = g }) x → IsPlacedCounter w (record a { counter = x; gathered = g }) x
    → ((t : Task) → task_of s a.context.task ≡ Some t → IsAhead p (encounter_of s a.context) a.stack x t.list)
    → ((t : Task) → task_of s a.context.task ≡ Some t → IsFront x t.frees) → KeepsRow p w n s i (record a { counter = x; gathered = g }) x → HasEnded events i x
    → KeepsThread p w n events s i (record a { counter = x; gathered = g })
same_bodies p w m events s i a own f fs stack o n x g variables fits placed ahead front row ended = record {
  thread = own.thread;
  fits = record { thread = own.fits.thread; variables = variables; bodies = own.fits.bodies; counter = fits };
  placed = record { bodies = own.placed.bodies; counter = placed };
  stands = subst (StandsWith p s i (record a { counter = x; gathered = g })) (sym stack) (record { current = o.current; bodies = o.bodies; ahead = ahead; front = front });
  runs = own.runs;
  row = row;
  ended = ended;
}
