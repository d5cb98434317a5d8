-- What `make N` writes, the run that it makes, and what it prints.
use Rattle.std.specs.Prelude.{◌≡◌, ℕ, List, [], ◌∷◌, ◌++◌, None, codes}
use Rattle.std.specs.Fmt.{decimal}
use Rattle.std.specs.List.{flat_map}
use Rattle.omi_core.specs.declared.entry.Entry.{Entry}
use Rattle.omi_core.specs.declared.stop.Break.TheVariants.{TaskBegin}
use Rattle.omi_core.specs.declared.stop.End.{End}
use Rattle.omi_core.specs.Ends.{count_of}
use Rattle.omi_core.specs.Steps.{events_behind}
use Rattle.omi_layout.specs.Family.{IsFamily}
use Rattle.omi_model.specs.State.{State}
use Rattle.omi_script.specs.declared.program.Program.{Program}
use Rattle.omi_top.specs.declared.limits.TheConstants.{MOST_STEPS}
use Rattle.omi_top.specs.declared.plan.Plan.{Plan}
use Rattle.omi_top.specs.Lines.{end_word}
use Rattle.omi_top.specs.Run.{IsRun}

-- the lines of a workload in which each of four threads makes 2 N tasks
abbrev pub make_lines : ℕ → List (List ℕ)
make_lines n =
    codes "threads 4"
    ∷ codes "func leaf"
    ∷ codes "  work"
    ∷ codes "end"
    ∷ codes "func node"
    ∷ codes "  task leaf"
    ∷ codes "  task leaf"
    ∷ codes "  taskwait"
    ∷ codes "end"
    ∷ codes "func team"
    ∷ (codes "  repeat " ++ (decimal n ++ codes " node"))
    ∷ codes "end"
    ∷ codes "func main"
    ∷ codes "  parallel team num 4"
    ∷ codes "end"
    ∷ []

-- its text: each line ends with a line feed
abbrev pub make_text : ℕ → List ℕ
make_text n = flat_map (λ line. line ++ 10 ∷ []) (make_lines n)

-- the run that is made: in the layout of family 0, the threads in turn, for 1,000,000 steps at most
abbrev pub make_plan : Plan
make_plan = record { layout = 0; seed = None; stop = record { steps = MOST_STEPS; on = None } }

-- the line that is printed: N, how many explicit tasks started, and why the run ended
abbrev pub made_line : ℕ → ℕ → End → List ℕ
made_line n tasks why =
    codes "made " ++ (decimal n ++ (codes " tasks " ++ (decimal tasks
    ++ (codes " by " ++ (end_word why ++ 10 ∷ [])))))

-- the line tells of a run of the program
pub record IsMade (n : ℕ) (p : Program) (line : List ℕ) : Type 0 where
  pub w : List ℕ
  pub family : IsFamily make_plan.layout p.threads w
  pub entries : List (ℕ × Entry)
  pub end : End
  pub words : List ℕ
  pub state : State
  pub run : IsRun w p make_plan entries end words state
  pub line_is : line ≡ made_line n (count_of TaskBegin (events_behind 0 entries)) end
