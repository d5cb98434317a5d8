-- A statement of a body names only smaller functions.
use Rattle.std.proofs.Common.{◌≡◌, ℕ, zero, suc, ◌+◌, ◌<◌, List, [], ◌∷◌, Some, sym, subst}
use Rattle.std.specs.Prelude.{slice_get}
use Rattle.std.proofs.Common.{add-one}
use Rattle.omi_script.specs.Bodies.{body_of, named_by}
use Rattle.omi_script.specs.declared.program.Program.{Program}
use Rattle.omi_script.specs.declared.statement.Stmt.{Stmt}
use Rattle.omi_script.proofs.RuleLemmas.{Rules-from_accepted}
use Rattle.omi_pc.specs.declared.frame.Frame.{Frame}
use Rattle.omi_pc.specs.Frames.{statement_before}
use Rattle.omi_pc.specs.OpenBodies.{IsAt}
use Rattle.omi_pc.specs.Stacks.{function_of}

-- a statement before a position stands in the body
before_stands : (body : List Stmt) (n : ℕ) (s : Stmt) → statement_before body n ≡ Some s
    → (k : ℕ) × (slice_get body k ≡ Some s)
before_stands body zero s e = absurd (cc)
before_stands body (suc n) s e = (n, e)

-- the statement at a position is before the next one
pub stands_before : (body : List Stmt) (n : ℕ) (s : Stmt) → slice_get body n ≡ Some s
    → statement_before body (n + 1) ≡ Some s
stands_before body n s e = subst (λ (k : ℕ). statement_before body k ≡ Some s) (sym (add-one n)) e

-- a statement in work names a smaller function than that of its body
pub named_below : (p : Program) (g : Frame) (gs : List Frame) (s : Stmt) (x : ℕ) → IsAt p (g ∷ gs) s
    → named_by s ≡ Some x → x < g.function
named_below p g gs s x is names =
    (Rules-from_accepted p).above g.function x s
    (before_stands (body_of p.funcs g.function) g.next s is) names

pub names_are_smaller : (p : Program) (fs : List Frame) (s : Stmt) (f : ℕ) → IsAt p fs s → named_by s ≡ Some f
    → f < function_of fs
names_are_smaller p [] s f is names = absurd (cc)
names_are_smaller p (g ∷ gs) s f is names = named_below p g gs s f is names
