-- The steps of this crate: the operation that an actor makes next, and what comes of it.
use Rattle.std.specs.Prelude.{◌≡◌, ℕ, List}
use Rattle.omi_word.specs.declared.op.Op.{Op}
use Rattle.omi_script.specs.declared.program.Program.{Program}
use Rattle.omi_rep.specs.declared.outcome.Outcome.{Outcome}
use Rattle.omi_pc.specs.declared.actor.Actor.{Actor}
use Rattle.omi_pc.specs.declared.counter.Counter.{Counter}
use Rattle.omi_pc.specs.declared.counter.Counter.TheVariants as counter
use Rattle.omi_plain.specs.PlainSteps.{plain_moved, plain_next, plain_outcome}

-- the counters whose steps stand here
abbrev pub IsPlainCounter : Counter → Type 0
IsPlainCounter (counter.Plain c) = Unit {0}
IsPlainCounter _ = ⊥

-- the operation at a counter of this crate
abbrev pub IsPlainNext : Program → List ℕ → Actor → Counter → Op → Type 0
IsPlainNext p w a (counter.Plain c) next = next ≡ plain_next p w a c
IsPlainNext p w a _ next = ⊥

-- where the operation found a word at such a counter: the outcome
abbrev pub IsPlainOutcome : Program → List ℕ → Actor → Counter → ℕ → Outcome → Type 0
IsPlainOutcome p w a (counter.Plain c) old o = o ≡ plain_outcome p w a c old
IsPlainOutcome p w a _ old o = ⊥

-- and the actor afterwards
abbrev pub IsPlainMoved : Program → List ℕ → Actor → Counter → ℕ → Actor → Type 0
IsPlainMoved p w a (counter.Plain c) old to = to ≡ plain_moved p a c old
IsPlainMoved p w a _ old to = ⊥
