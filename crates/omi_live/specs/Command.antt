-- What a command line asks for: `BUDGET SCRIPT CORE`, with `--break NAME` and `--layout K`.
use Rattle.std.specs.Prelude.{◌≡◌, ◌||◌, ℕ, List, [], ◌∷◌, Option, Some, None, if◌then◌else◌, is_some, map, option_and_then, option_map, string_bytes, String, Vec}
use Rattle.std.specs.declared.alloc.Global.{Global}
use Rattle.omi_core.specs.declared.stop.Break.{Break}
use Rattle.omi_line.specs.Line.{split_of}
use Rattle.omi_line.specs.Number.{number_between}
use Rattle.omi_line.specs.declared.line.Line.{Line}
use Rattle.omi_seat.specs.declared.limits.TheConstants.{MOST_BUDGET}
use Rattle.omi_commands.specs.Options.{break_named, layout_of}
use Rattle.omi_live.specs.declared.command.LivePlan.{LivePlan}

-- a run of the threads of a script, and the name of the core that it leaves
pub record LiveCommand : Type 0 where
  pub plan : LivePlan
  pub script : List ℕ
  pub core : List ℕ

-- `--break NAME`, or no breakpoint. None where there is no such breakpoint
abbrev pub live_break_of : Option (List ℕ) → Option (Option Break)
live_break_of None = Some None
live_break_of (Some name) = option_map Some (break_named name)

abbrev pub live_plan_with : ℕ → ℕ → Option Break → LivePlan
live_plan_with layout budget on = record { layout = layout; budget = budget; on = on }

-- the run that a line asks for, with BUDGET 0 to 50,000, where no part of it is refused
abbrev pub live_plan_of : List ℕ → Line → Option LivePlan
live_plan_of budget line =
    option_and_then (λ layout. option_and_then (λ n. option_map (live_plan_with layout n)
    (live_break_of line.on)) (number_between budget 0 MOST_BUDGET)) (layout_of line.layout)

abbrev pub live_command_with : List ℕ → List ℕ → LivePlan → LiveCommand
live_command_with script core plan = record { plan = plan; script = script; core = core }

-- `BUDGET SCRIPT CORE`, without a seed and without a count
abbrev pub live_command_of : List (List ℕ) → Line → Option LiveCommand
live_command_of (budget ∷ script ∷ core ∷ []) line =
    if is_some line.seed || is_some line.count then None
    else option_map (live_command_with script core) (live_plan_of budget line)
live_command_of words line = None

-- the command of a line
abbrev pub live_command_by : Line → Option LiveCommand
live_command_by line = live_command_of line.words line

-- the command that the words behind the program's name ask for. None where the words are refused
abbrev pub live_command_in : Vec (String Global) Global → Option LiveCommand
live_command_in words = option_and_then live_command_by (split_of (map string_bytes words.items))

-- a command writes the file of this name
abbrev pub LiveWrites : Option LiveCommand → List ℕ → Type 0
LiveWrites None name = ⊥
LiveWrites (Some command) name = name ≡ command.core
