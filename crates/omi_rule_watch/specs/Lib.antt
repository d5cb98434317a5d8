-- The definitions to believe, in reading order: the watch of a thread, and what is demanded by it.
pub mod Watch
pub mod Demands
-- What the proof is by: the watch as counters and registers give it
pub mod Given
-- The laws
pub mod WatchLaws
