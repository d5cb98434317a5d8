-- The steps that a word names.
pub mod Parts
-- What was printed for steps stays while the run goes on, and is the reports of the states that its events reach.
pub mod Printed
-- A rewind before its first step, and a thread's state word.
pub mod Turned
-- What a command's verb gave, and what a call leaves.
pub mod Performing
pub mod Left
pub mod Forms
