-- The definitions to believe, in reading order: what a walk answers, what it reads, and what it leaves.
pub mod Gives
pub mod Index
pub mod Walks
pub mod Leaves
-- All that a walk asks, part by part.
pub mod Fault
pub mod Asking
pub mod AskWords
pub mod AskThreads
pub mod AskRegions
pub mod AskTasks
pub mod AskView
-- What a walk answers that keeps a handle of each task.
pub mod Kept
-- That it is a plain look at the words.
pub mod AskLooked
-- Private functions alone cite these: what is met on the way, and the parts of a report.
pub mod Objects
pub mod Relations
pub mod Threads
pub mod SeenThreads
pub mod FoundThreads
pub mod Chains
pub mod Regions
pub mod Members
pub mod Tasks
pub mod Added
pub mod Parts
