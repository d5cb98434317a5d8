-- What a command line asks for: `at N,N,.. SCRIPT` or `when I STATE STEPS SCRIPT`, without options.
use Rattle.std.specs.Prelude.{◌==◌, ℕ, List, [], ◌∷◌, length, nat_le, Option, Some, None, if◌then◌else◌, bytes_eq, codes, map, option_and_then, option_map, string_bytes, String, Vec}
use Rattle.std.specs.List.{slice_split}
use Rattle.std.specs.declared.alloc.Global.{Global}
use Rattle.omi_line.specs.Line.{split_of}
use Rattle.omi_line.specs.Number.{number_between}
use Rattle.omi_line.specs.declared.line.Line.{Line}
use Rattle.omi_numbers.specs.Names.{number_in}
use Rattle.omi_numbers.specs.States.{states}
use Rattle.omi_rewind.specs.declared.limits.TheConstants.{LAST_STEP}
use Rattle.omi_commands.specs.Options.{has_option}
use Rattle.omi_rewind_top.specs.declared.limits.TheConstants.{MOST_JUMPS, MOST_NUMBER}

-- the steps to go to, or a thread, its state and the last step at which it is looked for; and the name of the script
pub data RewindCommand : Type 0 where
  GoTo : (steps : List ℕ) (script : List ℕ) → RewindCommand
  FindState : (thread state last : ℕ) (script : List ℕ) → RewindCommand

abbrev pub script_of : RewindCommand → List ℕ
script_of (GoTo steps script) = script
script_of (FindState thread state last script) = script

-- the numbers up to the last step that texts are. None where one of them is none
abbrev pub numbers_in : List (List ℕ) → Option (List ℕ)
numbers_in [] = Some []
numbers_in (part ∷ parts) =
    option_and_then (λ n. option_map (λ ns. n ∷ ns) (numbers_in parts)) (number_between part 0 LAST_STEP)

-- N,N,..: up to 16 steps of 0 to 1,000,000, with a comma (44) between two
abbrev pub steps_of : List ℕ → Option (List ℕ)
steps_of text =
    let parts = slice_split (λ b. b == 44) text in
    if nat_le (length parts) MOST_JUMPS then numbers_in parts else None

-- `at N,N,.. SCRIPT`
abbrev pub at_of : List (List ℕ) → Option RewindCommand
at_of (steps ∷ script ∷ []) = option_map (λ ns. GoTo ns script) (steps_of steps)
at_of names = None

-- `when I STATE STEPS SCRIPT`, with a number I, the name of a state, and STEPS 0 to 1,000,000
abbrev pub when_of : List (List ℕ) → Option RewindCommand
when_of (thread ∷ state ∷ last ∷ script ∷ []) =
    option_and_then (λ i. option_and_then (λ s. option_map (λ n. FindState i s n script)
    (number_between last 0 LAST_STEP)) (number_in states state)) (number_between thread 0 MOST_NUMBER)
when_of names = None

-- a verb and the names behind it
abbrev pub verb_of : List (List ℕ) → Option RewindCommand
verb_of [] = None
verb_of (verb ∷ names) =
    if bytes_eq verb (codes "at") then at_of names
    else (if bytes_eq verb (codes "when") then when_of names else None)

-- the command of a line
abbrev pub command_by : Line → Option RewindCommand
command_by line = if has_option line then None else verb_of line.words

-- the command that the words behind the program's name ask for. None where the words are refused
abbrev pub rewind_command_in : Vec (String Global) Global → Option RewindCommand
rewind_command_in words = option_and_then command_by (split_of (map string_bytes words.items))
