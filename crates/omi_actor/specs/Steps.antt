-- The steps of one thread: the operation that an actor makes next, and what comes of it, by the family of its counter.
use Rattle.std.specs.Prelude.{ℕ, List}
use Rattle.omi_word.specs.declared.op.Op.{Op}
use Rattle.omi_word.specs.declared.op.Res.{Res}
use Rattle.omi_script.specs.declared.program.Program.{Program}
use Rattle.omi_rep.specs.declared.outcome.Outcome.{Outcome}
use Rattle.omi_pc.specs.declared.actor.Actor.{Actor}
use Rattle.omi_pc.specs.declared.counter.Counter.{Counter}
use Rattle.omi_pc.specs.declared.counter.Counter.TheVariants as counter
use Rattle.omi_fork.specs.BarrierSteps.{barrier_moved, barrier_next, barrier_outcome}
use Rattle.omi_fork.specs.JoinSteps.{join_moved, join_next, join_outcome}
use Rattle.omi_fork.specs.TeamSteps.{team_moved, team_next, team_outcome}
use Rattle.omi_fork.specs.WorkerSteps.{worker_moved, worker_next, worker_outcome}
use Rattle.omi_plain.specs.PlainSteps.{plain_moved, plain_next, plain_outcome}
use Rattle.omi_task.specs.FinishSteps.{finish_moved, finish_next, finish_outcome}
use Rattle.omi_task.specs.LookSteps.{look_moved, look_next, look_outcome}
use Rattle.omi_task.specs.MakingSteps.{making_moved, making_next, making_outcome}

-- the operation at a counter
abbrev pub next_at : Program → List ℕ → Actor → Counter → Op
next_at p w a (counter.Worker c) = worker_next w a c
next_at p w a (counter.Team c) = team_next p w a c
next_at p w a (counter.Barrier c) = barrier_next w a c
next_at p w a (counter.Join c) = join_next w a c
next_at p w a (counter.Task c) = making_next p w a c
next_at p w a (counter.Look c) = look_next w a c
next_at p w a (counter.Finish c) = finish_next w a c
next_at p w a (counter.Plain c) = plain_next p w a c

abbrev pub next_of : Program → List ℕ → Actor → Op
next_of p w a = next_at p w a a.counter

-- where the operation found a word: the actor afterwards, and the outcome
abbrev pub resumed_at : Program → List ℕ → Actor → Counter → ℕ → Actor × Outcome
resumed_at p w a (counter.Worker c) old =
    (worker_moved p w a c old, worker_outcome w a c old)
resumed_at p w a (counter.Team c) old = (team_moved p w a c old, team_outcome p w a c old)
resumed_at p w a (counter.Barrier c) old =
    (barrier_moved p a c old, barrier_outcome w a c old)
resumed_at p w a (counter.Join c) old = (join_moved p w a c old, join_outcome w a c old)
resumed_at p w a (counter.Task c) old =
    (making_moved p w a c old, making_outcome w a c old)
resumed_at p w a (counter.Look c) old = (look_moved p w a c old, look_outcome w a c old)
resumed_at p w a (counter.Finish c) old = (finish_moved p w a c old, finish_outcome a c)
resumed_at p w a (counter.Plain c) old = (plain_moved p a c old, plain_outcome p w a c old)

abbrev pub resumed : Program → List ℕ → Actor → Res → Actor × Outcome
resumed p w a r = resumed_at p w a a.counter r.old
