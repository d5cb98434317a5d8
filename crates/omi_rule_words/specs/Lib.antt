-- The definitions to believe, in reading order: what a thread has half done, what is counted, and what holds of the words between any two steps.
pub mod Owes
pub mod Counts
pub mod Threads
pub mod Objects
pub mod Groups
pub mod Words
-- The laws
pub mod Opens
pub mod Shown
pub mod Kinds
pub mod TaskKinds
pub mod BarrierKinds
pub mod TeamKinds
pub mod CountKinds
pub mod ExplicitKinds
pub mod FreeKinds
