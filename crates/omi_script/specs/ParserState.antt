-- The state of a parser between two lines: what the lines above say, none of which has a fault.
use Rattle.std.specs.Prelude.{ℕ, Bool, true, not, ◌&&◌, ◌+◌, ◌==◌, List, [], ◌∷◌, ◌++◌, length, sum_by, position, bytes_eq, Option, Some, None, option_map, option_and_then, is_some, if◌then◌else◌}
use Rattle.std.specs.Option.{option_map_or, option_to_list}
use Rattle.omi_script.specs.Constructs.{over}
use Rattle.omi_script.specs.Lines.{words}
use Rattle.omi_script.specs.Names.{text_of, name_of}
use Rattle.omi_script.specs.HeadLines.{head_after}
use Rattle.omi_script.specs.Line.{line_of}
use Rattle.omi_script.specs.declared.function.Func.{Func}
use Rattle.omi_script.specs.declared.head.Head.{Head}
use Rattle.omi_script.specs.declared.line.SourceLine.{SourceLine}
use Rattle.omi_script.specs.declared.line.SourceLine.TheVariants as line
use Rattle.omi_script.specs.declared.parser.ParserState.{ParserState}
use Rattle.omi_script.specs.declared.statement.Stmt.{Stmt}

-- no head line
abbrev pub no_head : Head
no_head =
    record {
      threads = None;
      nthreads = None;
      dynamic = None;
      max_active = None;
      sched = None;
      device = None;
      debug = None;
      procs = None;
    }

-- the state before the first line
abbrev pub first_state : ParserState
first_state = record { head = no_head; closed = []; opened = None }

-- such a line may stand there: a head line before the first function, a function outside of one,
-- its statements and its end inside
abbrev pub may_stand : ParserState → SourceLine → Bool
may_stand state line.Blank = true
may_stand state (line.Head h) = not (is_some state.opened) && length state.closed == 0
may_stand state (line.Function name) = not (is_some state.opened)
may_stand state (line.Construct name c) = is_some state.opened
may_stand state (line.StandAlone s) = is_some state.opened
may_stand state line.End = is_some state.opened

-- what a line says in a state. None where it has none of the shapes that are allowed there
abbrev pub line_in : ParserState → List ℕ → Option SourceLine
line_in state bytes =
    option_and_then (λ l. if may_stand state l then Some l else None) (line_of (words bytes))

-- the function has this name
abbrev pub is_called : List ℕ → Func → Bool
is_called name f = bytes_eq (text_of f.name) name

-- the statement of a line. None where it is none, a number is not in its range, or no closed
-- function has the name
abbrev pub statement_of_line : ParserState → SourceLine → Option Stmt
statement_of_line state (line.Construct name c) =
    option_and_then (λ d. option_map (over d) (position (is_called name) state.closed)) c
statement_of_line state (line.StandAlone s) = s
statement_of_line state _ = None

-- how many statements stand above
abbrev pub statements_above : ParserState → ℕ
statements_above state =
    sum_by (λ f. length f.body) state.closed + option_map_or (λ f. length f.body) state.opened 0

-- the function with one more statement
abbrev pub with_statement : Func → Stmt → Func
with_statement f s = record f { body = f.body ++ s ∷ [] }

-- the state with one more statement of the open function
abbrev pub after_statement : ParserState → Option Stmt → ParserState
after_statement state s =
    record state { opened = option_and_then (λ f. option_map (with_statement f) s) state.opened }

-- the state after a line that says this
abbrev pub after_line : ParserState → SourceLine → ParserState
after_line state line.Blank = state
after_line state (line.Head h) = record state { head = head_after state.head h }
after_line state (line.Function name) =
    record state { opened = Some (record { name = name_of name; body = [] }) }
after_line state (line.Construct name c) =
    after_statement state (statement_of_line state (line.Construct name c))
after_line state (line.StandAlone s) = after_statement state s
after_line state line.End =
    record state { closed = state.closed ++ option_to_list state.opened; opened = None }

-- the state after a line without a fault
abbrev pub parser_after : ParserState → List ℕ → ParserState
parser_after state bytes = option_map_or (after_line state) (line_in state bytes) state
