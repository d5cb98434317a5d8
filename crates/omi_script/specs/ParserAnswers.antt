-- What the parser answers at a line, and at the end of a text.
use Rattle.std.specs.Prelude.{◌≡◌, ℕ, Bool, IsTrue, [], codes, position, Result, Ok, Err, Some, None}
use Rattle.omi_script.specs.LineFaults.{least, has_end_fault}
use Rattle.omi_script.specs.ParserState.{is_called, statements_above, after_statement, after_line}
use Rattle.omi_script.specs.Reach.{reaches}
use Rattle.omi_script.specs.SaidFaults.{has_said_fault, has_statement_fault}
use Rattle.omi_script.specs.Program.{is_program}
use Rattle.omi_script.specs.Grammar.{threads_of, env_of, IsProgramOf}
use Rattle.omi_script.specs.declared.program.Program.{Program}
use Rattle.omi_script.specs.declared.fault.LineError.{LineError}
use Rattle.omi_script.specs.declared.fault.LineError.TheVariants.{Fault, OutOfMemory}
use Rattle.omi_script.specs.declared.fault.Why.{Why}
use Rattle.omi_script.specs.declared.line.SourceLine.{SourceLine}
use Rattle.omi_script.specs.declared.parser.Parser.{Parser}
use Rattle.omi_script.specs.declared.parser.ParserState.{ParserState}
use Rattle.omi_script.specs.declared.statement.Stmt.{Stmt}

-- the answer is the least of these faults, if there is one, and else the parser is in that state.
-- Want of memory says nothing
abbrev pub Answers : (Why → Bool) → ParserState → Result Parser LineError → Type 0
Answers has next (Ok p) = (least has ≡ None) × (p.state ≡ next)
Answers has next (Err (Fault why)) = least has ≡ Some why
Answers has next (Err OutOfMemory) = Unit {0}

-- the answer at a line of text that says this
abbrev pub AnswersSaid : ParserState → SourceLine → Result Parser LineError → Type 0
AnswersSaid state line = Answers (has_said_fault state line) (after_line state line)

-- the answer at a line that says this statement of the open function
abbrev pub AnswersStatement : ParserState → Stmt → Result Parser LineError → Type 0
AnswersStatement state s =
    Answers
    (has_statement_fault (reaches [] state.closed) (statements_above state) s)
    (after_statement state (Some s))

-- the program keeps the rules, where the text may end here
abbrev pub MayEnd : ParserState → Type 0
MayEnd state =
    least (has_end_fault state) ≡ None → (main : ℕ)
    → Some main ≡ position (is_called (codes "main")) state.closed
    → IsTrue (is_program (threads_of state.head) (env_of state.head) state.closed main)

-- the answer at the end of the text: the least fault of the end, if there is one, and else the
-- program of the lines above. Want of memory says nothing
abbrev pub EndAnswers : ParserState → Result Program LineError → Type 0
EndAnswers state (Ok p) = (least (has_end_fault state) ≡ None) × IsProgramOf state p
EndAnswers state (Err (Fault why)) = least (has_end_fault state) ≡ Some why
EndAnswers state (Err OutOfMemory) = Unit {0}
