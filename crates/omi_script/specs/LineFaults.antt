-- Which faults a line has, in the state of the parser before it.
use Rattle.std.specs.Prelude.{ℕ, Bool, false, not, ◌||◌, nat_le, List, [], ◌∷◌, ◌++◌, length, find, codes, Option, is_some}
use Rattle.std.specs.List.{list_all, list_any, position}
use Rattle.std.specs.Option.{option_map_or, option_to_list}
use Rattle.omi_numbers.specs.declared.limits.TheConstants.{OPEN_GROUPS}
use Rattle.omi_script.specs.Lines.{is_text}
use Rattle.omi_script.specs.Names.{is_name_text}
use Rattle.omi_script.specs.HeadLines.{has_number, stands_above}
use Rattle.omi_script.specs.Reach.{Reach, reach_at, reaches}
use Rattle.omi_script.specs.ParserState.{line_in, is_called, statement_of_line, statements_above}
use Rattle.omi_script.specs.declared.fault.Why.{Why}
use Rattle.omi_script.specs.declared.fault.Why.TheVariants.{NotText, UnknownWord, BadNumber, UnknownName, Repeated, BarrierInTask, BarrierNested, OverLimit, NoMain, Unclosed}
use Rattle.omi_script.specs.declared.limits.TheConstants.{MAX_FUNCTIONS, MAX_STATEMENTS, MAX_DEPTH}
use Rattle.omi_script.specs.declared.line.SourceLine.{SourceLine}
use Rattle.omi_script.specs.declared.line.SourceLine.TheVariants.{Head, Function, Construct, StandAlone}
use Rattle.omi_script.specs.declared.parser.ParserState.{ParserState}
use Rattle.omi_script.specs.declared.statement.Stmt.{Stmt}
use Rattle.omi_script.specs.declared.statement.Stmt.TheVariants.{Parallel, Task, Critical, Only, Taskgroup}

-- a number is not in its range, or is none
abbrev pub has_bad_number : SourceLine → Bool
has_bad_number (Head h) = not (has_number h)
has_bad_number (Construct name c) = not (is_some c)
has_bad_number (StandAlone s) = not (is_some s)
has_bad_number _ = false

-- a function's name has not the form of one, or a statement names no closed function
abbrev pub has_unknown_name : ParserState → SourceLine → Bool
has_unknown_name state (Function name) = not (is_name_text name)
has_unknown_name state (Construct name c) = not (is_some (position (is_called name) state.closed))
has_unknown_name state _ = false

-- a head line of the kind, or a function of the name, stands above
abbrev pub is_repeated : ParserState → SourceLine → Bool
is_repeated state (Head h) = stands_above state.head h
is_repeated state (Function name) = list_any (is_called name) state.closed
is_repeated state _ = false

-- a task over a function that reaches a barrier
abbrev pub is_task_with_barrier : List Reach → Stmt → Bool
is_task_with_barrier above (Task f undeferred is_final) = (reach_at above f).barrier
is_task_with_barrier above _ = false

-- `only`, `critical` or `taskgroup` of a function that reaches a barrier
abbrev pub nests_barrier : List Reach → Stmt → Bool
nests_barrier above (Only m f) = (reach_at above f).barrier
nests_barrier above (Critical k f) = (reach_at above f).barrier
nests_barrier above (Taskgroup f) = (reach_at above f).barrier
nests_barrier above _ = false

-- a parallel region over a function of the greatest depth, or a taskgroup region over one of the
-- greatest group depth
abbrev pub is_too_deep : List Reach → Stmt → Bool
is_too_deep above (Parallel f num) = nat_le MAX_DEPTH (reach_at above f).depth
is_too_deep above (Taskgroup f) = nat_le OPEN_GROUPS (reach_at above f).groups
is_too_deep above _ = false

-- the line says a statement of which this holds
abbrev pub says_such : (List Reach → Stmt → Bool) → ParserState → SourceLine → Bool
says_such test state line =
    option_map_or (test (reaches [] state.closed)) (statement_of_line state line) false

-- a statement more than a script may have, or a region that is nested too deep
abbrev pub is_statement_over_limit : ParserState → SourceLine → Bool
is_statement_over_limit state line =
    nat_le MAX_STATEMENTS (statements_above state) || says_such is_too_deep state line

-- a function more than a script may have, or such a statement
abbrev pub is_over_limit : ParserState → SourceLine → Bool
is_over_limit state (Function name) = nat_le MAX_FUNCTIONS (length state.closed)
is_over_limit state (Construct name c) = is_statement_over_limit state (Construct name c)
is_over_limit state (StandAlone s) = is_statement_over_limit state (StandAlone s)
is_over_limit state _ = false

-- a fact of what the line says in a state, false where that is nothing
abbrev pub if_said : (SourceLine → Bool) → ParserState → List ℕ → Bool
if_said test state bytes = option_map_or test (line_in state bytes) false

-- the line has this fault. NoMain and Unclosed are faults of the text's end
abbrev pub has_fault : ParserState → List ℕ → Why → Bool
has_fault state bytes NotText = not (list_all is_text bytes)
has_fault state bytes UnknownWord = not (is_some (line_in state bytes))
has_fault state bytes BadNumber = if_said has_bad_number state bytes
has_fault state bytes UnknownName = if_said (has_unknown_name state) state bytes
has_fault state bytes Repeated = if_said (is_repeated state) state bytes
has_fault state bytes BarrierInTask = if_said (says_such is_task_with_barrier state) state bytes
has_fault state bytes BarrierNested = if_said (says_such nests_barrier state) state bytes
has_fault state bytes OverLimit = if_said (is_over_limit state) state bytes
has_fault state bytes NoMain = false
has_fault state bytes Unclosed = false

-- no function has the name `main`, also none that is open; or a function is open
abbrev pub has_end_fault : ParserState → Why → Bool
has_end_fault state NoMain =
    not (list_any (is_called (codes "main")) (state.closed ++ option_to_list state.opened))
has_end_fault state Unclosed = is_some state.opened
has_end_fault state _ = false

-- all faults by their numbers
abbrev pub in_order : List Why
in_order =
    NotText ∷ UnknownWord ∷ BadNumber ∷ UnknownName ∷ Repeated
    ∷ BarrierInTask ∷ BarrierNested ∷ OverLimit ∷ NoMain ∷ Unclosed ∷ []

-- the fault of the least number, if there is one
abbrev pub least : (Why → Bool) → Option Why
least has = find has in_order
