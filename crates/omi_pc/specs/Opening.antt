-- The actors with which a program starts.
use Rattle.std.specs.Prelude.{ℕ, zero, suc, true, false, [], ◌∷◌, replicate}
use Rattle.omi_script.specs.declared.program.Program.{Program}
use Rattle.omi_model.specs.Opening.{initial_task, initial_region}
use Rattle.omi_pc.specs.declared.actor.Actor.{Actor}
use Rattle.omi_pc.specs.declared.context.Context.{Context}
use Rattle.omi_pc.specs.declared.counter.Counter.TheVariants as counter
use Rattle.omi_pc.specs.declared.frame.Opened.TheVariants.{Main}
use Rattle.omi_pc.specs.declared.gathered.Gathered.{Gathered}
use Rattle.omi_pc.specs.declared.limits.TheConstants.{VARIABLE_WORDS}
use Rattle.omi_pc.specs.declared.team_counter.WorkerCounter.TheVariants.{Begin}
use Rattle.omi_pc.specs.Frames.{at_start}
use Rattle.omi_pc.specs.Settle.{settled}

-- what thread 0 knows of the initial task
abbrev pub initial_context : Context
initial_context =
    record {
      task = initial_task;
      region = initial_region;
      row = initial_task;
      number = 0;
      size = 1;
      arrivals = 0;
      open_groups = 0;
      implicit = true;
      is_final = false;
      depth = 1;
    }

-- nothing has been gathered
abbrev pub nothing_gathered : Gathered
nothing_gathered =
    record {
      variables = replicate VARIABLE_WORDS 0;
      levels = 0;
      active = 0;
      wanted = 0;
      asked = 0;
      team = [];
      group = 0;
    }

-- a thread before `begin`. It has no task, so its context says nothing
abbrev pub waiting_actor : ℕ → Actor
waiting_actor thread =
    record {
      thread = thread;
      counter = counter.Worker Begin;
      context = initial_context;
      gathered = nothing_gathered;
      stack = [];
    }

-- thread 0 has the body of `main` open, and every other thread waits
abbrev pub opening_actor : Program → ℕ → Actor
opening_actor p zero = settled p (record (waiting_actor 0) { stack = at_start p.main Main ∷ [] })
opening_actor p (suc i) = waiting_actor (suc i)
