-- The steps of this crate: the operation that an actor makes next, and what comes of it.
use Rattle.std.specs.Prelude.{◌≡◌, ℕ, List}
use Rattle.omi_word.specs.declared.op.Op.{Op}
use Rattle.omi_script.specs.declared.program.Program.{Program}
use Rattle.omi_rep.specs.declared.outcome.Outcome.{Outcome}
use Rattle.omi_pc.specs.declared.actor.Actor.{Actor}
use Rattle.omi_pc.specs.declared.counter.Counter.{Counter}
use Rattle.omi_pc.specs.declared.counter.Counter.TheVariants as counter
use Rattle.omi_fork.specs.BarrierSteps.{barrier_moved, barrier_next, barrier_outcome}
use Rattle.omi_fork.specs.JoinSteps.{join_moved, join_next, join_outcome}
use Rattle.omi_fork.specs.TeamSteps.{team_moved, team_next, team_outcome}
use Rattle.omi_fork.specs.WorkerSteps.{worker_moved, worker_next, worker_outcome}

-- the counters whose steps stand here
abbrev pub IsForkCounter : Counter → Type 0
IsForkCounter (counter.Worker c) = Unit {0}
IsForkCounter (counter.Team c) = Unit {0}
IsForkCounter (counter.Barrier c) = Unit {0}
IsForkCounter (counter.Join c) = Unit {0}
IsForkCounter _ = ⊥

-- the operation at a counter of this crate
abbrev pub IsForkNext : Program → List ℕ → Actor → Counter → Op → Type 0
IsForkNext p w a (counter.Worker c) next = next ≡ worker_next w a c
IsForkNext p w a (counter.Team c) next = next ≡ team_next p w a c
IsForkNext p w a (counter.Barrier c) next = next ≡ barrier_next w a c
IsForkNext p w a (counter.Join c) next = next ≡ join_next w a c
IsForkNext p w a _ next = ⊥

-- where the operation found a word at such a counter: the outcome
abbrev pub IsForkOutcome : Program → List ℕ → Actor → Counter → ℕ → Outcome → Type 0
IsForkOutcome p w a (counter.Worker c) old o = o ≡ worker_outcome w a c old
IsForkOutcome p w a (counter.Team c) old o = o ≡ team_outcome p w a c old
IsForkOutcome p w a (counter.Barrier c) old o = o ≡ barrier_outcome w a c old
IsForkOutcome p w a (counter.Join c) old o = o ≡ join_outcome w a c old
IsForkOutcome p w a _ old o = ⊥

-- and the actor afterwards
abbrev pub IsForkMoved : Program → List ℕ → Actor → Counter → ℕ → Actor → Type 0
IsForkMoved p w a (counter.Worker c) old to = to ≡ worker_moved p w a c old
IsForkMoved p w a (counter.Team c) old to = to ≡ team_moved p w a c old
IsForkMoved p w a (counter.Barrier c) old to = to ≡ barrier_moved p a c old
IsForkMoved p w a (counter.Join c) old to = to ≡ join_moved p w a c old
IsForkMoved p w a _ old to = ⊥
