-- The lock of a critical region of a program is one of the locks.
use Rattle.std.proofs.Common.{◌≡◌, ℕ, zero, suc, ◌≤◌, List, [], ◌∷◌, Some}
use Rattle.std.specs.Prelude.{slice_get}
use Rattle.omi_script.specs.Bodies.{body_of}
use Rattle.omi_script.specs.declared.limits.TheConstants.{MAX_LOCK}
use Rattle.omi_script.specs.declared.program.Program.{Program}
use Rattle.omi_script.specs.declared.statement.Stmt.{Stmt}
use Rattle.omi_script.specs.declared.statement.Stmt.TheVariants.{Critical}
use Rattle.omi_script.specs.Rules.{Rules}
use Rattle.omi_pc.specs.declared.frame.Frame.{Frame}
use Rattle.omi_pc.specs.Frames.{statement_before}
use Rattle.omi_pc.specs.OpenBodies.{IsAt}

-- a statement before a position stands in the body
pub before_stands : (body : List Stmt) (n : ℕ) (s : Stmt) → statement_before body n ≡ Some s
    → (k : ℕ) × (slice_get body k ≡ Some s)
before_stands body zero s e = absurd (cc)
before_stands body (suc n) s e = (n, e)

pub lock_in_range : (p : Program) (fs : List Frame) (k f : ℕ) → Rules p → IsAt p fs (Critical k f)
    → k ≤ MAX_LOCK
lock_in_range p [] k f rules at = absurd (cc)
lock_in_range p (g ∷ gs) k f rules at =
    rules.ranges g.function (Critical k f)
    (before_stands (body_of p.funcs g.function) g.next (Critical k f) at)
