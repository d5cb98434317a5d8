-- What a command line asks for.
use Rattle.std.specs.Prelude.{◌||◌, ℕ, Bool, List, [], ◌∷◌, Option, Some, None, if◌then◌else◌, codes, bytes_eq, is_some, map, string_bytes, String, Vec}
use Rattle.std.specs.declared.alloc.Global.{Global}
use Rattle.std.specs.Option.{option_map_or}
use Rattle.omi_line.specs.Line.{split_of}
use Rattle.omi_line.specs.Number.{number_between}
use Rattle.omi_line.specs.declared.line.Line.{Line}
use Rattle.omi_top.specs.declared.limits.TheConstants.{MOST_NODES}
use Rattle.omi_top.specs.declared.plan.Plan.{Plan}
use Rattle.omi_top.specs.Plan.{plan_of}

-- a command of the program, or words that are none
pub data Command : Type 0 where
  Stop : (plan : Plan) (script core : List ℕ) → Command
  Make : (n : ℕ) (script : List ℕ) → Command
  Show : (core : List ℕ) → Command
  Run : (plan : Plan) (script core : List ℕ) → Command
  Recode : (order : ℕ) (core copy : List ℕ) → Command
  Elf : (core copy : List ℕ) → Command
  Audit : (core : List ℕ) → Command
  Follow : (core later : List ℕ) → Command
  Faulty : Command

-- the line has an option
abbrev pub has_option : Line → Bool
has_option line = is_some line.seed || is_some line.on || is_some line.count || is_some line.layout

-- `stop STEPS SCRIPT CORE`, with options
abbrev pub stop_by : List (List ℕ) → Line → Command
stop_by (steps ∷ script ∷ core ∷ []) line =
    option_map_or (λ plan. Stop plan script core) (plan_of steps line) Faulty
stop_by names line = Faulty

-- `make N SCRIPT`, with N 1 to 1000, without options
abbrev pub make_by : List (List ℕ) → Line → Command
make_by (n ∷ script ∷ []) line =
    if has_option line then Faulty
    else option_map_or (λ nodes. Make nodes script) (number_between n 1 MOST_NODES) Faulty
make_by names line = Faulty

-- `show CORE`, without options
abbrev pub show_by : List (List ℕ) → Line → Command
show_by (core ∷ []) line = if has_option line then Faulty else Show core
show_by names line = Faulty

-- `run STEPS SCRIPT CORE`, with the options of `stop`
abbrev pub and_shown : Command → Command
and_shown (Stop plan script core) = Run plan script core
and_shown other = other

abbrev pub run_by : List (List ℕ) → Line → Command
run_by names line = and_shown (stop_by names line)

-- `recode ORDER CORE CORE2`, with ORDER 0 or 1, without options
abbrev pub recode_by : List (List ℕ) → Line → Command
recode_by (order ∷ core ∷ copy ∷ []) line =
    if has_option line then Faulty
    else option_map_or (λ o. Recode o core copy) (number_between order 0 1) Faulty
recode_by names line = Faulty

-- `elf CORE CORE2`, without options
abbrev pub elf_by : List (List ℕ) → Line → Command
elf_by (core ∷ copy ∷ []) line = if has_option line then Faulty else Elf core copy
elf_by names line = Faulty

-- `audit CORE`, without options
abbrev pub audit_by : List (List ℕ) → Line → Command
audit_by (core ∷ []) line = if has_option line then Faulty else Audit core
audit_by names line = Faulty

-- `follow CORE CORE2`, without options
abbrev pub follow_by : List (List ℕ) → Line → Command
follow_by (core ∷ later ∷ []) line = if has_option line then Faulty else Follow core later
follow_by names line = Faulty

-- a verb and the names behind it
abbrev pub verb_by : List (List ℕ) → Line → Command
verb_by [] line = Faulty
verb_by (verb ∷ names) line =
    if bytes_eq verb (codes "stop") then stop_by names line
    else (if bytes_eq verb (codes "make") then make_by names line
    else (if bytes_eq verb (codes "show") then show_by names line
    else (if bytes_eq verb (codes "run") then run_by names line
    else (if bytes_eq verb (codes "recode") then recode_by names line
    else (if bytes_eq verb (codes "elf") then elf_by names line
    else (if bytes_eq verb (codes "audit") then audit_by names line
    else (if bytes_eq verb (codes "follow") then follow_by names line else Faulty)))))))

-- the command of a line, if words make one: its positional words are a verb and names
abbrev pub command_by : Option Line → Command
command_by None = Faulty
command_by (Some line) = verb_by line.words line

-- the command that words ask for, by the line that the rules of words and options make of them
abbrev pub command_of : List (List ℕ) → Command
command_of words = command_by (split_of words)

-- the command that the words behind the program's name ask for
abbrev pub command_in : Vec (String Global) Global → Command
command_in words = command_of (map string_bytes words.items)
