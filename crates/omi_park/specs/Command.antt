-- What a command line asks for: `BUDGET STOPS SCRIPT`, without options.
use Rattle.std.specs.Prelude.{ℕ, List, [], ◌∷◌, Option, None, if◌then◌else◌, map, option_and_then, option_map, string_bytes, String, Vec}
use Rattle.std.specs.declared.alloc.Global.{Global}
use Rattle.omi_line.specs.Line.{split_of}
use Rattle.omi_line.specs.Number.{number_between}
use Rattle.omi_line.specs.declared.line.Line.{Line}
use Rattle.omi_seat.specs.declared.limits.TheConstants.{MOST_BUDGET}
use Rattle.omi_commands.specs.Options.{has_option}
use Rattle.omi_park.specs.declared.command.ParkPlan.{ParkPlan}
use Rattle.omi_park.specs.declared.limits.TheConstants.{MOST_STOPS}

-- a run of the threads of a script with stops beside them
pub record ParkCommand : Type 0 where
  pub plan : ParkPlan
  pub script : List ℕ

abbrev pub park_plan_with : ℕ → ℕ → ParkPlan
park_plan_with budget stops = record { budget = budget; stops = stops }

-- BUDGET 0 to 50,000, and STOPS 0 to 8. None where one of them is no such number
abbrev pub park_plan_of : List ℕ → List ℕ → Option ParkPlan
park_plan_of budget stops =
    option_and_then (λ n. option_map (park_plan_with n) (number_between stops 0 MOST_STOPS))
    (number_between budget 0 MOST_BUDGET)

abbrev pub park_command_with : List ℕ → ParkPlan → ParkCommand
park_command_with script plan = record { plan = plan; script = script }

-- `BUDGET STOPS SCRIPT`
abbrev pub park_command_of : List (List ℕ) → Option ParkCommand
park_command_of (budget ∷ stops ∷ script ∷ []) =
    option_map (park_command_with script) (park_plan_of budget stops)
park_command_of words = None

-- the command of a line
abbrev pub park_command_by : Line → Option ParkCommand
park_command_by line = if has_option line then None else park_command_of line.words

-- the command that the words behind the program's name ask for. None where the words are refused
abbrev pub park_command_in : Vec (String Global) Global → Option ParkCommand
park_command_in words = option_and_then park_command_by (split_of (map string_bytes words.items))
