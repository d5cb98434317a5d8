-- Which faults a line has by what it says, where its bytes are text.
use Rattle.std.specs.Prelude.{ℕ, Bool, false, not, ◌||◌, nat_le, List}
use Rattle.omi_script.specs.ParserState.{may_stand}
use Rattle.omi_script.specs.LineFaults.{has_bad_number, has_unknown_name, is_repeated, is_task_with_barrier, nests_barrier, is_too_deep, says_such, is_over_limit}
use Rattle.omi_script.specs.Reach.{Reach}
use Rattle.omi_script.specs.declared.fault.Why.{Why}
use Rattle.omi_script.specs.declared.fault.Why.TheVariants.{NotText, UnknownWord, BadNumber, UnknownName, Repeated, BarrierInTask, BarrierNested, OverLimit, NoMain, Unclosed}
use Rattle.omi_script.specs.declared.limits.TheConstants.{MAX_STATEMENTS}
use Rattle.omi_script.specs.declared.line.SourceLine.{SourceLine}
use Rattle.omi_script.specs.declared.parser.ParserState.{ParserState}
use Rattle.omi_script.specs.declared.statement.Stmt.{Stmt}

-- a line that says this has this fault
abbrev pub has_said_fault : ParserState → SourceLine → Why → Bool
has_said_fault state line NotText = false
has_said_fault state line UnknownWord = not (may_stand state line)
has_said_fault state line BadNumber = has_bad_number line
has_said_fault state line UnknownName = has_unknown_name state line
has_said_fault state line Repeated = is_repeated state line
has_said_fault state line BarrierInTask = says_such is_task_with_barrier state line
has_said_fault state line BarrierNested = says_such nests_barrier state line
has_said_fault state line OverLimit = is_over_limit state line
has_said_fault state line NoMain = false
has_said_fault state line Unclosed = false

-- a statement has this fault, behind so many others in functions that reach this, where its line
-- has no lesser one
abbrev pub has_statement_fault : List Reach → ℕ → Stmt → Why → Bool
has_statement_fault above statements s BarrierInTask = is_task_with_barrier above s
has_statement_fault above statements s BarrierNested = nests_barrier above s
has_statement_fault above statements s OverLimit =
    nat_le MAX_STATEMENTS statements || is_too_deep above s
has_statement_fault above statements s _ = false
