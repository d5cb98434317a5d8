-- The definitions to believe, in reading order: what is ahead of a thread by where it stands, what its contexts say of the state, what
-- its registers say, and the rule between any two steps.
pub mod Ahead
pub mod Chains
pub mod Rows
pub mod Rule
-- What comes of a step
pub mod Waits
pub mod Commits
pub mod Steps
-- The laws
pub mod LeavesOthers
pub mod Descends
pub mod Opens
pub mod StepsKeep
