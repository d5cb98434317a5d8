-- The steps of this crate: the operation that an actor makes next, and what comes of it.
use Rattle.std.specs.Prelude.{◌≡◌, ℕ, List}
use Rattle.omi_word.specs.declared.op.Op.{Op}
use Rattle.omi_script.specs.declared.program.Program.{Program}
use Rattle.omi_rep.specs.declared.outcome.Outcome.{Outcome}
use Rattle.omi_pc.specs.declared.actor.Actor.{Actor}
use Rattle.omi_pc.specs.declared.counter.Counter.{Counter}
use Rattle.omi_pc.specs.declared.counter.Counter.TheVariants as counter
use Rattle.omi_task.specs.FinishSteps.{finish_moved, finish_next, finish_outcome}
use Rattle.omi_task.specs.LookSteps.{look_moved, look_next, look_outcome}
use Rattle.omi_task.specs.MakingSteps.{making_moved, making_next, making_outcome}

-- the counters whose steps stand here
abbrev pub IsTaskCounter : Counter → Type 0
IsTaskCounter (counter.Task c) = Unit {0}
IsTaskCounter (counter.Look c) = Unit {0}
IsTaskCounter (counter.Finish c) = Unit {0}
IsTaskCounter _ = ⊥

-- the operation at a counter of this crate
abbrev pub IsTaskNext : Program → List ℕ → Actor → Counter → Op → Type 0
IsTaskNext p w a (counter.Task c) next = next ≡ making_next p w a c
IsTaskNext p w a (counter.Look c) next = next ≡ look_next w a c
IsTaskNext p w a (counter.Finish c) next = next ≡ finish_next w a c
IsTaskNext p w a _ next = ⊥

-- where the operation found a word at such a counter: the outcome
abbrev pub IsTaskOutcome : Program → List ℕ → Actor → Counter → ℕ → Outcome → Type 0
IsTaskOutcome p w a (counter.Task c) old o = o ≡ making_outcome w a c old
IsTaskOutcome p w a (counter.Look c) old o = o ≡ look_outcome w a c old
IsTaskOutcome p w a (counter.Finish c) old o = o ≡ finish_outcome a c
IsTaskOutcome p w a _ old o = ⊥

-- and the actor afterwards
abbrev pub IsTaskMoved : Program → List ℕ → Actor → Counter → ℕ → Actor → Type 0
IsTaskMoved p w a (counter.Task c) old to = to ≡ making_moved p w a c old
IsTaskMoved p w a (counter.Look c) old to = to ≡ look_moved p w a c old
IsTaskMoved p w a (counter.Finish c) old to = to ≡ finish_moved p w a c old
IsTaskMoved p w a _ old to = ⊥
