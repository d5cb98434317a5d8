-- The verdict on a text: where its lines lead, or which line is faulty, and why.
use Rattle.std.specs.Prelude.{ℕ, nat_le, ◌+◌, List, [], ◌∷◌, length, Option, if◌then◌else◌}
use Rattle.std.specs.Option.{option_map_or}
use Rattle.omi_script.specs.Lines.{lines}
use Rattle.omi_script.specs.ParserState.{first_state, parser_after}
use Rattle.omi_script.specs.LineFaults.{has_fault, has_end_fault, least}
use Rattle.omi_script.specs.declared.fault.ScriptFault.{ScriptFault}
use Rattle.omi_script.specs.declared.fault.Why.{Why}
use Rattle.omi_script.specs.declared.fault.Why.TheVariants.{OverLimit}
use Rattle.omi_script.specs.declared.limits.TheConstants.{MAX_BYTES}
use Rattle.omi_script.specs.declared.parser.ParserState.{ParserState}

-- what a text is: a program, whose lines lead to this state, or none, by the least fault of its
-- first faulty line
pub data Verdict : Type 0 where
  Accepts : ParserState → Verdict
  Refuses : ScriptFault → Verdict

-- a fault of the line with a number, where there is one, and else another verdict
abbrev pub refused_or : ℕ → Option Why → Verdict → Verdict
refused_or n why v = option_map_or (λ w. Refuses (record { line = n; why = w })) why v

-- the verdict on the lines from a number on, in the state before them. The end of the text is a
-- line of its own
abbrev pub judge : ℕ → ParserState → List (List ℕ) → Verdict
judge n state [] = refused_or n (least (has_end_fault state)) (Accepts state)
judge n state (line ∷ more) =
    refused_or n (least (has_fault state line)) (judge (n + 1) (parser_after state line) more)

-- the verdict on a text. One that is too long is refused before all else
abbrev pub verdict : List ℕ → Verdict
verdict bytes =
    if nat_le (length bytes) MAX_BYTES then judge 1 first_state (lines bytes)
    else Refuses (record { line = 1; why = OverLimit })
