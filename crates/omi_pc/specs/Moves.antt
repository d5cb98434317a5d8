-- Moves that several steps have in common.
use Rattle.std.specs.Prelude.{ℕ, zero, suc, List, [], ◌∷◌, if◌then◌else◌, Option}
use Rattle.omi_script.specs.declared.program.Program.{Program}
use Rattle.omi_pc.specs.declared.actor.Actor.{Actor}
use Rattle.omi_pc.specs.declared.context.Context.{Context}
use Rattle.omi_pc.specs.declared.counter.PlainCounter.TheVariants as plain
use Rattle.omi_pc.specs.declared.frame.Frame.{Frame}
use Rattle.omi_pc.specs.declared.frame.Opened.{Opened}
use Rattle.omi_pc.specs.declared.frame.Opened.TheVariants as opened
use Rattle.omi_pc.specs.declared.frame.Wait.{Wait}
use Rattle.omi_pc.specs.Frames.{at_start, started_again}
use Rattle.omi_pc.specs.Settle.{goes_to, settled}

-- ---- tasks begin and end

-- another task is current, with the body of its function open
abbrev pub begun_task : ℕ → Opened → Context → Actor → Actor
begun_task f opened c a = record a { context = c; stack = at_start f opened ∷ a.stack }

-- the implicit task of a member but member 0
abbrev pub begun_worker : ℕ → Context → Actor → Actor
begun_worker f c a = begun_task f opened.Worker c a

-- the implicit task of member 0, on top of the encountering task
abbrev pub begun_master : ℕ → Context → Actor → Actor
begun_master f c a = begun_task f (opened.Master a.context) c a

-- an explicit task, on top of the task that it is scheduled from
abbrev pub begun_explicit : ℕ → Option Wait → Context → Actor → Actor
begun_explicit f wait c a = begun_task f (opened.Task wait a.context) c a

-- the context that is current once a body is closed
abbrev pub context_under : Context → Opened → Context
context_under c opened.Main = c
context_under c opened.Worker = c
context_under c (opened.Master saved) = saved
context_under c (opened.Task wait saved) = saved
context_under c opened.Call = c
context_under c (opened.Repeat left) = c
context_under c (opened.Critical k) = c
context_under c opened.Taskgroup = c

abbrev pub closed_in : Actor → List Frame → Actor
closed_in a [] = a
closed_in a (f ∷ fs) = record a { context = context_under a.context f.opened; stack = fs }

-- the innermost body is closed. Where it was a task's, the task below is current again
abbrev pub closed : Actor → Actor
closed a = closed_in a a.stack

-- ---- a function has returned

-- `repeat`: the next round begins, or the statement is passed over where none is left
abbrev pub next_round : ℕ → Frame → List Frame → Actor → Actor
next_round zero f fs a = goes_to plain.Skip (record a { stack = fs })
next_round (suc zero) f fs a = goes_to plain.Skip (record a { stack = fs })
next_round (suc (suc left)) f fs a =
    goes_to plain.Call (record a { stack = started_again f (opened.Repeat (suc left)) ∷ fs })

-- `call` and `only`: the next statement is in work. `critical`: the lock is given back. `taskgroup`: the statement goes on, at the end of its region
abbrev pub returned_by : Program → Opened → Frame → List Frame → Actor → Actor
returned_by p opened.Call f fs a = settled p (record a { stack = fs })
returned_by p (opened.Repeat left) f fs a = next_round left f fs a
returned_by p (opened.Critical k) f fs a = goes_to plain.Unlock (record a { stack = fs })
returned_by p opened.Taskgroup f fs a = goes_to plain.Enter (record a { stack = fs })
returned_by p opened.Main f fs a = a
returned_by p opened.Worker f fs a = a
returned_by p (opened.Master saved) f fs a = a
returned_by p (opened.Task wait saved) f fs a = a

abbrev pub returned_in : Program → List Frame → Actor → Actor
returned_in p [] a = a
returned_in p (f ∷ fs) a = returned_by p f.opened f fs a

-- the innermost body, which no task begins with, has returned
abbrev pub returned : Program → Actor → Actor
returned p a = returned_in p a.stack a

-- ---- back to work

abbrev pub worked_at : Program → ℕ → Actor → Actor
worked_at p zero a = settled p a
worked_at p (suc n) a = goes_to plain.Leave a

abbrev pub worked_in : Program → List Frame → Actor → Actor
worked_in p [] a = a
worked_in p (f ∷ fs) a = worked_at p f.next a

-- behind the store of a working state: a body that has not begun goes on, and the current task leaves the runtime where a
-- statement is in work
abbrev pub worked : Program → Actor → Actor
worked p a = worked_in p a.stack a

-- the thread works again. Its state is stored first where states are kept
abbrev pub back_to_work : Program → Actor → Actor
back_to_work p a = if p.env.debug then goes_to plain.WorkState a else worked p a
