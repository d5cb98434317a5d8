-- Threads that owe nothing: those that work, arrive at a barrier, or have not begun. The actors with which a program starts do.
use Rattle.std.proofs.Common.{◌≡◌, ℕ, zero, suc, List, [], ◌∷◌, Some, None, Option, refl}
use Rattle.omi_script.specs.declared.program.Program.{Program}
use Rattle.omi_script.specs.declared.statement.Stmt.{Stmt}
use Rattle.omi_model.specs.declared.id.Tid.{Tid}
use Rattle.omi_pc.specs.declared.actor.Actor.{Actor}
use Rattle.omi_pc.specs.declared.context.Context.{Context}
use Rattle.omi_pc.specs.declared.counter.Counter.{Counter}
use Rattle.omi_pc.specs.declared.counter.Counter.TheVariants as counter
use Rattle.omi_pc.specs.declared.frame.Opened.TheVariants.{Main}
use Rattle.omi_pc.specs.declared.team_counter.WorkerCounter.TheVariants as worker
use Rattle.omi_pc.specs.Frames.{at_start, advanced, next_statement}
use Rattle.omi_pc.specs.Opening.{opening_actor, waiting_actor}
use Rattle.omi_pc.specs.Settle.{settled_by}
use Rattle.omi_pc.proofs.NextCounters.{begun_next}
use Rattle.omi_rule_words.specs.Owes.{owed, owed_at, nothing}

-- at these counters a thread owes nothing
abbrev pub IsIdle : Counter → Type 0
IsIdle (counter.Worker worker.Begin) = Unit {0}
IsIdle (counter.Worker _) = ⊥
IsIdle (counter.Team c) = ⊥
IsIdle (counter.Barrier c) = Unit {0}
IsIdle (counter.Join c) = ⊥
IsIdle (counter.Task c) = ⊥
IsIdle (counter.Look c) = ⊥
IsIdle (counter.Finish c) = ⊥
IsIdle (counter.Plain c) = Unit {0}

pub owes_nothing : (context : Context) (members : List (Tid × ℕ)) (c : Counter) → IsIdle c
    → owed_at context members c ≡ nothing
owes_nothing context members (counter.Worker worker.Begin) is = refl
owes_nothing context members (counter.Barrier c) is = refl
owes_nothing context members (counter.Plain c) is = refl
owes_nothing context members _ is = absurd is

opening_idle : (p : Program) (i : ℕ) → IsIdle (opening_actor p i).counter
opening_idle p (suc i) = tt
opening_idle p zero = go (next_statement p (at_start p.main Main))
  where
    a : Actor
    a = record (waiting_actor 0) { stack = at_start p.main Main ∷ [] }

    go : (s : Option Stmt) → IsIdle (settled_by p a (at_start p.main Main) [] s).counter
    go (Some s) =
        begun_next IsIdle (λ c before. tt) s (record a { stack = advanced (at_start p.main Main) ∷ [] })
    go None = tt

pub opening_owes : (p : Program) (i : ℕ) → owed (opening_actor p i) ≡ nothing
opening_owes p i =
    owes_nothing (opening_actor p i).context (opening_actor p i).gathered.team (opening_actor p i).counter
    (opening_idle p i)
