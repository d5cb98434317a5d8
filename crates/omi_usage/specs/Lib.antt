-- The definitions to believe, in reading order: what the words of a command are to be, and what is said of a word that is refused.
pub mod Form
-- How the words are read, one after the other.
pub mod Reading
