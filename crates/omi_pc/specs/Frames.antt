-- Frames: the body of each, its statements, and a stack of frames from the innermost one outwards.
use Rattle.std.specs.Prelude.{ℕ, zero, suc, ◌+◌, List, [], ◌∷◌, slice_get, Option, Some, None}
use Rattle.omi_script.specs.Bodies.{body_of}
use Rattle.omi_script.specs.declared.program.Program.{Program}
use Rattle.omi_script.specs.declared.statement.Stmt.{Stmt}
use Rattle.omi_pc.specs.declared.frame.Frame.{Frame}
use Rattle.omi_pc.specs.declared.frame.Opened.{Opened}

-- the statements of a frame's function
abbrev pub body_in : Program → Frame → List Stmt
body_in p f = body_of p.funcs f.function

-- the statement that comes next in a frame, none at the end of the body
abbrev pub next_statement : Program → Frame → Option Stmt
next_statement p f = slice_get (body_in p f) f.next

-- the statement before a position, none at the start
abbrev pub statement_before : List Stmt → ℕ → Option Stmt
statement_before body zero = None
statement_before body (suc n) = slice_get body n

-- the statement in work in a frame, none where the body has not begun
abbrev pub statement_in : Program → Frame → Option Stmt
statement_in p f = statement_before (body_in p f) f.next

-- a body that has not begun
abbrev pub at_start : ℕ → Opened → Frame
at_start f opened = record { function = f; next = 0; opened = opened }

-- a body whose next statement is in work from now on
abbrev pub advanced : Frame → Frame
advanced f = record f { next = f.next + 1 }

-- a body that begins once more
abbrev pub started_again : Frame → Opened → Frame
started_again f opened = record f { next = 0; opened = opened }

-- ---- stacks

-- the innermost body
abbrev pub top_of : List Frame → Option Frame
top_of [] = None
top_of (f ∷ fs) = Some f

-- the bodies outside the innermost one
abbrev pub without_top : List Frame → List Frame
without_top [] = []
without_top (f ∷ fs) = fs

-- another frame in the place of the innermost one
abbrev pub with_top : Frame → List Frame → List Frame
with_top g [] = []
with_top g (f ∷ fs) = g ∷ fs

-- the statement in work in the innermost body
abbrev pub statement_of : Program → List Frame → Option Stmt
statement_of p [] = None
statement_of p (f ∷ fs) = statement_in p f
