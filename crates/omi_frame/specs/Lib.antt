-- The definitions to believe, in reading order: what a script is to a command, why a command ends without an answer and the line that it
-- prints then, when a status comes, and what is seen of the outside.
pub mod Scripts
pub mod Refusal
pub mod Said
pub mod Statuses
pub mod Seen
-- What is promised of a command, what a call of it leaves, and what each layer of a top call says of that
pub mod Verb
pub mod Left
pub mod Concluded
-- Verbs that do something of the program in a script
pub mod OfScript
