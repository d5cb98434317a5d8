-- What a run makes follows from its program, its layout and its plan, and what a command writes and says from its plan and the script. Each
-- says that there is at most one; that there is one where memory is there, no definition says.
use Rattle.std.specs.Prelude.{◌≡◌, ℕ, List, Some, Ok}
use Rattle.omi_script.specs.declared.program.Program.{Program}
use Rattle.omi_model.specs.State.{State}
use Rattle.omi_layout.specs.Family.{IsFamily}
use Rattle.omi_core.specs.declared.entry.Entry.{Entry}
use Rattle.omi_core.specs.declared.stop.End.{End}
use Rattle.omi_frame.specs.Verb.{Gives}
use Rattle.omi_top.specs.verbs.Make.{IsMakeAnswer}
use Rattle.omi_top.specs.verbs.Stop.{IsStopAnswer}
use Rattle.omi_top.specs.Run.{IsRun}
use Rattle.omi_top.specs.declared.plan.Plan.{Plan}

-- two runs have the same steps, the same end, the same last words and the same state
pub record IsOneRun (xs ys : List (ℕ × Entry)) (a b : End) (words others : List ℕ) (s t : State)
    : Type 0 where
  pub entries : xs ≡ ys
  pub end_is : a ≡ b
  pub words_are : words ≡ others
  pub state : s ≡ t

-- there is at most one run of a program by a plan in a layout of a family
abbrev pub RunsAreDetermined : Type 0
RunsAreDetermined = (k : ℕ) (w : List ℕ) (p : Program) (plan : Plan) (xs ys : List (ℕ × Entry))
    (a b : End) (words others : List ℕ) (s t : State) → IsFamily k p.threads w
    → IsRun w p plan xs a words s → IsRun w p plan ys b others t
    → IsOneRun xs ys a b words others s t

-- a script and a plan give at most one core and one text of a run, for `stop` and within `run`
abbrev pub StopsAreDetermined : Type 0
StopsAreDetermined = (plan : Plan) (script core text other said : List ℕ)
    → IsStopAnswer plan (Some script) (Gives (Some core) (Ok text))
    → IsStopAnswer plan (Some script) (Gives (Some other) (Ok said))
    → (core ≡ other) × (text ≡ said)

-- and a number at most one workload and one line of `make`
abbrev pub MakesAreDetermined : Type 0
MakesAreDetermined = (n : ℕ) (script line other said : List ℕ)
    → IsMakeAnswer n (Gives (Some script) (Ok line))
    → IsMakeAnswer n (Gives (Some other) (Ok said)) → (script ≡ other) × (line ≡ said)
