-- The definitions to believe, in reading order: what a command line asks for, the lines that are printed, what is printed of a run, and
-- the verb of a command.
pub mod Command
pub mod Forms
pub mod Lines
pub mod Turns
pub mod Answer
-- What private functions stand on: a request as a command
pub mod Asked
pub mod Looked
