-- The plain counters: each step keeps the rule.
pub mod Firsts
pub mod Loads
pub mod OwnEvents
pub mod Calls
pub mod Ends
pub mod TaskWords
pub mod Leaves
pub mod Locks
pub mod States
pub mod Variables
pub mod Enters
pub mod GroupBegins
pub mod PlainKeeps
