-- What the language is, in reading order: from a text to its verdict, and from a verdict to a
-- program.
pub mod Lines
pub mod Names
pub mod Numbers
pub mod Schedules
pub mod HeadLines
pub mod StatementLines
pub mod Line
pub mod Constructs
pub mod ParserState
pub mod Ranges
pub mod Reach
pub mod LineFaults
pub mod Faults
pub mod Verdict
pub mod Grammar
-- What a program is, its rules as plain facts, and its canonical text.
pub mod Program
pub mod Bodies
pub mod Rules
pub mod Canonical
pub mod Errors
-- Glue of private functions: nothing that a reader has to believe.
pub mod Separators
pub mod SaidFaults
pub mod Counts
pub mod ParserAnswers
