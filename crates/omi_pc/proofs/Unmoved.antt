-- What a move between statements leaves as it was.
use Rattle.std.proofs.Common.{◌==◌, ℕ, zero, suc, Bool, true, false, cond, List, [], ◌∷◌, Option, Some, None, refl}
use Rattle.omi_script.specs.declared.program.Program.{Program}
use Rattle.omi_script.specs.declared.statement.Stmt.{Stmt}
use Rattle.omi_script.specs.declared.statement.Stmt.TheVariants as stmt
use Rattle.omi_pc.specs.declared.actor.Actor.{Actor}
use Rattle.omi_pc.specs.declared.counter.Counter.{Counter}
use Rattle.omi_pc.specs.declared.counter.PlainCounter.TheVariants as plain
use Rattle.omi_pc.specs.declared.frame.Frame.{Frame}
use Rattle.omi_pc.specs.declared.frame.Opened.{Opened}
use Rattle.omi_pc.specs.declared.frame.Opened.TheVariants as opened
use Rattle.omi_pc.specs.FitLaws.{DifferInBodies}
use Rattle.omi_pc.specs.Frames.{advanced, next_statement}
use Rattle.omi_pc.specs.Moves.{next_round, returned, returned_by, returned_in, worked, worked_at, worked_in, back_to_work}
use Rattle.omi_pc.specs.Settle.{statement_begun, calling, ended, goes_to, repeating, settled, settled_by, settled_in, skipping}

-- another counter and other bodies
same : (a : Actor) (c : Counter) (fs : List Frame) → DifferInBodies a (record a { counter = c; stack = fs })
same a c fs = record { thread = refl; context = refl; gathered = refl }

module _ (a : Actor) (fs : List Frame) where
  abbrev there : Actor
  there = record a { stack = fs }

  only_differs : (g : ℕ) (b : Bool) → DifferInBodies a (cond b (calling g opened.Call there) (skipping there))
  only_differs g true = same a _ _
  only_differs g false = same a _ _

  repeat_differs : (n g : ℕ) → DifferInBodies a (repeating n g there)
  repeat_differs zero g = same a _ _
  repeat_differs (suc n) g = same a _ _

  begun_differs : (s : Stmt) → DifferInBodies a (statement_begun s there)
  begun_differs (stmt.Only m g) = only_differs g (a.context.number == m)
  begun_differs (stmt.Repeat n g) = repeat_differs n g
  begun_differs s = same a _ _

ended_differs : (a : Actor) (debug : Bool) (o : Opened) → DifferInBodies a (ended debug o a)
ended_differs a debug opened.Main = same a _ _
ended_differs a debug opened.Worker = same a _ _
ended_differs a debug (opened.Master saved) = same a _ _
ended_differs a debug (opened.Task w saved) = same a _ _
ended_differs a debug opened.Call = same a _ _
ended_differs a debug (opened.Repeat left) = same a _ _
ended_differs a debug (opened.Critical k) = same a _ _
ended_differs a debug opened.Taskgroup = same a _ _

settles_by : (p : Program) (a : Actor) (f : Frame) (fs : List Frame) (o : Option Stmt)
    → DifferInBodies a (settled_by p a f fs o)
settles_by p a f fs (Some s) = begun_differs a (advanced f ∷ fs) s
settles_by p a f fs None = ended_differs a p.env.debug f.opened

settles_in : (p : Program) (a : Actor) (fs : List Frame) → DifferInBodies a (settled_in p a fs)
settles_in p a [] = same a _ _
settles_in p a (f ∷ fs) = settles_by p a f fs (next_statement p f)

pub settled_differs : (p : Program) (a : Actor) → DifferInBodies a (settled p a)
settled_differs p a = settles_in p a a.stack

-- the same where other bodies were put in before
settled_elsewhere : (p : Program) (a : Actor) (fs : List Frame)
    → DifferInBodies a (settled p (record a { stack = fs }))
settled_elsewhere p a fs =
    let differs = settled_differs p (record a { stack = fs }) in
    record { thread = differs.thread; context = differs.context; gathered = differs.gathered }

round_differs : (a : Actor) (left : ℕ) (f : Frame) (fs : List Frame)
    → DifferInBodies a (next_round left f fs a)
round_differs a zero f fs = same a _ _
round_differs a (suc zero) f fs = same a _ _
round_differs a (suc (suc left)) f fs = same a _ _

returns_by : (p : Program) (a : Actor) (o : Opened) (f : Frame) (fs : List Frame)
    → DifferInBodies a (returned_by p o f fs a)
returns_by p a opened.Call f fs = settled_elsewhere p a fs
returns_by p a (opened.Repeat left) f fs = round_differs a left f fs
returns_by p a (opened.Critical k) f fs = same a _ _
returns_by p a opened.Taskgroup f fs = same a _ _
returns_by p a opened.Main f fs = same a _ _
returns_by p a opened.Worker f fs = same a _ _
returns_by p a (opened.Master saved) f fs = same a _ _
returns_by p a (opened.Task w saved) f fs = same a _ _

returns_in : (p : Program) (a : Actor) (fs : List Frame) → DifferInBodies a (returned_in p fs a)
returns_in p a [] = same a _ _
returns_in p a (f ∷ fs) = returns_by p a f.opened f fs

pub returned_differs : (p : Program) (a : Actor) → DifferInBodies a (returned p a)
returned_differs p a = returns_in p a a.stack

goes_at : (p : Program) (a : Actor) (n : ℕ) → DifferInBodies a (worked_at p n a)
goes_at p a zero = settled_differs p a
goes_at p a (suc n) = same a _ _

goes_in : (p : Program) (a : Actor) (fs : List Frame) → DifferInBodies a (worked_in p fs a)
goes_in p a [] = same a _ _
goes_in p a (f ∷ fs) = goes_at p a f.next

pub worked_differs : (p : Program) (a : Actor) → DifferInBodies a (worked p a)
worked_differs p a = goes_in p a a.stack

works_by : (p : Program) (a : Actor) (debug : Bool)
    → DifferInBodies a (cond debug (goes_to plain.WorkState a) (worked p a))
works_by p a true = same a _ _
works_by p a false = worked_differs p a

pub working_differs : (p : Program) (a : Actor) → DifferInBodies a (back_to_work p a)
working_differs p a = works_by p a p.env.debug
