-- What holds of the open bodies of a task keeps holding in the moves between statements: no task begins or ends there.
use Rattle.std.proofs.Common.{◌≡◌, ◌==◌, ℕ, zero, suc, Bool, true, false, List, [], ◌∷◌, Option, Some, None, refl, sym, subst, if◌then◌else◌}
use Rattle.omi_script.specs.declared.program.Program.{Program}
use Rattle.omi_script.specs.declared.statement.Stmt.{Stmt}
use Rattle.omi_script.specs.declared.statement.Stmt.TheVariants as stmt
use Rattle.omi_pc.specs.declared.actor.Actor.{Actor}
use Rattle.omi_pc.specs.declared.context.Context.{Context}
use Rattle.omi_pc.specs.declared.counter.PlainCounter.TheVariants as plain
use Rattle.omi_pc.specs.declared.frame.Frame.{Frame}
use Rattle.omi_pc.specs.declared.frame.Opened.{Opened}
use Rattle.omi_pc.specs.declared.frame.Opened.TheVariants as opened
use Rattle.omi_pc.specs.Frames.{advanced, at_start, next_statement, started_again}
use Rattle.omi_pc.specs.Moves.{next_round, returned, returned_by, returned_in, worked, worked_at, worked_in, back_to_work}
use Rattle.omi_pc.specs.OpenBodies.{IsCalled}
use Rattle.omi_pc.specs.Settle.{statement_begun, calling, ended, goes_to, settled, settled_by, settled_in, skipping}

-- a fact of open bodies that a call and a return leave, and that does not name positions
pub record IsOfBodies (P : Context → List Frame → Type 0) : Type 0 where
  pub advances : (c : Context) (f : Frame) (fs : List Frame) → P c (f ∷ fs) → P c (advanced f ∷ fs)
  pub calls : (c : Context) (g : ℕ) (o : Opened) (f : Frame) (fs : List Frame) → IsCalled o → P c (f ∷ fs)
      → P c (at_start g o ∷ f ∷ fs)
  pub returns : (c : Context) (f : Frame) (fs : List Frame) → IsCalled f.opened → P c (f ∷ fs) → P c fs
  pub again : (c : Context) (f : Frame) (left : ℕ) (fs : List Frame) → IsCalled f.opened → P c (f ∷ fs)
      → P c (started_again f (opened.Repeat left) ∷ fs)

module _ (P : Context → List Frame → Type 0) (laws : IsOfBodies P) (p : Program) where
  abbrev Of : Actor → Type 0
  Of a = P a.context a.stack

  called : (g : ℕ) (o : Opened) (a : Actor) (f : Frame) (fs : List Frame) → a.stack ≡ f ∷ fs → IsCalled o
      → Of a → Of (calling g o a)
  called g o a f fs is c x =
      subst (λ (y : List Frame). P a.context (at_start g o ∷ y)) (sym is)
      (laws.calls a.context g o f fs c (subst (P a.context) is x))

  begins : (s : Stmt) (a : Actor) (f : Frame) (fs : List Frame) → a.stack ≡ f ∷ fs → Of a
      → Of (statement_begun s a)
  begins (stmt.Call g) a f fs is o = called g opened.Call a f fs is refl o
  begins (stmt.Only m g) a f fs is o = go (a.context.number == m)
    where
      go : (b : Bool) → Of (if b then calling g opened.Call a else skipping a)
      go true = called g opened.Call a f fs is refl o
      go false = o
  begins (stmt.Repeat (suc n) g) a f fs is o = called g (opened.Repeat (suc n)) a f fs is refl o
  begins s a f fs is o = o

  ends : (debug : Bool) (o : Opened) (a : Actor) → Of a → Of (ended debug o a)
  ends debug opened.Main a x = x
  ends debug opened.Worker a x = x
  ends debug (opened.Master saved) a x = x
  ends debug (opened.Task w saved) a x = x
  ends debug opened.Call a x = x
  ends debug (opened.Repeat left) a x = x
  ends debug (opened.Critical k) a x = x
  ends debug opened.Taskgroup a x = x

  pub settled_of : (a : Actor) → Of a → Of (settled p a)
  settled_of a o = go a.stack refl o
    where
      go : (fs : List Frame) → a.stack ≡ fs → P a.context fs → Of (settled_in p a fs)
      go [] is x = o
      go (f ∷ fs) is x = by (next_statement p f)
        where
          by : (n : Option Stmt) → Of (settled_by p a f fs n)
          by (Some s) =
              begins s (record a { stack = advanced f ∷ fs }) (advanced f) fs refl
              (laws.advances a.context f fs x)
          by None = ends p.env.debug f.opened a o

  pub worked_of : (a : Actor) → Of a → Of (worked p a)
  worked_of a o = go a.stack
    where
      go : (fs : List Frame) → Of (worked_in p fs a)
      go [] = o
      go (f ∷ fs) = by f.next
        where
          by : (n : ℕ) → Of (worked_at p n a)
          by zero = settled_of a o
          by (suc n) = o

  pub working_of : (a : Actor) → Of a → Of (back_to_work p a)
  working_of a o = go p.env.debug
    where
      go : (d : Bool) → Of (if d then goes_to plain.WorkState a else worked p a)
      go true = o
      go false = worked_of a o

  pub returned_of : (a : Actor) (f : Frame) (fs : List Frame) → a.stack ≡ f ∷ fs → IsCalled f.opened → Of a
      → Of (returned p a)
  returned_of a f fs is called o = subst (λ (x : List Frame). Of (returned_in p x a)) (sym is) (go f.opened)
    where
      here : P a.context (f ∷ fs)
      here = subst (P a.context) is o

      under : P a.context fs
      under = laws.returns a.context f fs called here

      rounds : (left : ℕ) → Of (next_round left f fs a)
      rounds zero = under
      rounds (suc zero) = under
      rounds (suc (suc left)) = laws.again a.context f (suc left) fs called here

      go : (x : Opened) → Of (returned_by p x f fs a)
      go opened.Main = o
      go opened.Worker = o
      go (opened.Master saved) = o
      go (opened.Task w saved) = o
      go opened.Call = settled_of (record a { stack = fs }) under
      go (opened.Repeat left) = rounds left
      go (opened.Critical k) = under
      go opened.Taskgroup = under
