-- A move between statements does not look at the counter that the actor had.
use Rattle.std.proofs.Common.{◌≡◌, ◌==◌, ℕ, zero, suc, Bool, true, false, List, ◌∷◌, Option, Some, None, refl, sym, ap, ◌∙◌, if◌then◌else◌}
use Rattle.omi_script.specs.declared.program.Program.{Program}
use Rattle.omi_script.specs.declared.statement.Stmt.{Stmt}
use Rattle.omi_script.specs.declared.statement.Stmt.TheVariants as stmt
use Rattle.omi_pc.specs.declared.actor.Actor.{Actor}
use Rattle.omi_pc.specs.declared.counter.Counter.{Counter}
use Rattle.omi_pc.specs.declared.frame.Frame.{Frame}
use Rattle.omi_pc.specs.declared.frame.Opened.{Opened}
use Rattle.omi_pc.specs.declared.frame.Opened.TheVariants as opened
use Rattle.omi_pc.specs.Frames.{advanced, next_statement}
use Rattle.omi_pc.specs.Moves.{worked, worked_at, worked_in}
use Rattle.omi_pc.specs.Settle.{statement_begun, calling, ended, settled, settled_by, settled_in, skipping}

-- an actor at another counter
abbrev pub at_counter : Counter → Actor → Actor
at_counter x a = record a { counter = x }

begun_forgets : (s : Stmt) (a : Actor) (x : Counter)
    → statement_begun s (at_counter x a) ≡ statement_begun s a
begun_forgets (stmt.Only m g) a x = go (a.context.number == m)
  where
    go : (b : Bool)
        → (if b then calling g opened.Call (at_counter x a) else skipping (at_counter x a)) ≡ (if b then calling g opened.Call a else skipping a)
    go true = refl
    go false = refl
begun_forgets (stmt.Repeat zero g) a x = refl
begun_forgets (stmt.Repeat (suc n) g) a x = refl
begun_forgets s a x = refl

ended_forgets : (debug : Bool) (o : Opened) (a : Actor) (x : Counter)
    → ended debug o (at_counter x a) ≡ ended debug o a
ended_forgets debug opened.Main a x = refl
ended_forgets debug opened.Worker a x = refl
ended_forgets debug (opened.Master saved) a x = refl
ended_forgets debug (opened.Task w saved) a x = refl
ended_forgets debug opened.Call a x = refl
ended_forgets debug (opened.Repeat left) a x = refl
ended_forgets debug (opened.Critical k) a x = refl
ended_forgets debug opened.Taskgroup a x = refl

pub settled_forgets : (p : Program) (a : Actor) (f : Frame) (fs : List Frame) (x : Counter) → a.stack ≡ f ∷ fs
    → settled p (at_counter x a) ≡ settled p a
settled_forgets p a f fs x is =
    ap (λ (y : List Frame). settled_in p (at_counter x a) y) is
    ∙ go (next_statement p f)
    ∙ sym (ap (λ (y : List Frame). settled_in p a y) is)
  where
    go : (n : Option Stmt) → settled_by p (at_counter x a) f fs n ≡ settled_by p a f fs n
    go (Some s) = begun_forgets s (record a { stack = advanced f ∷ fs }) x
    go None = ended_forgets p.env.debug f.opened a x

pub worked_forgets : (p : Program) (a : Actor) (f : Frame) (fs : List Frame) (x : Counter) → a.stack ≡ f ∷ fs
    → worked p (at_counter x a) ≡ worked p a
worked_forgets p a f fs x is =
    ap (λ (y : List Frame). worked_in p y (at_counter x a)) is
    ∙ go f.next
    ∙ sym (ap (λ (y : List Frame). worked_in p y a) is)
  where
    go : (n : ℕ) → worked_at p n (at_counter x a) ≡ worked_at p n a
    go zero = settled_forgets p a f fs x is
    go (suc n) = refl
