-- The definitions to believe, in reading order: what a word is, how the words make a line, and what number a text is.
pub mod Word
pub mod Line
pub mod Number
-- How `clap` comes to the same line: the command that it is given, what its errors are, and the one word that is refused
-- before it is asked.
pub mod Command
pub mod LineError
pub mod Hyphen
