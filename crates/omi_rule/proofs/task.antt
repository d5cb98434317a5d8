-- The steps of a `task` construct.
pub mod Within
pub mod Loads
pub mod Searches
pub mod Fills
pub mod Filled
pub mod Counted
pub mod Raises
pub mod Events
pub mod Slots
pub mod FilledTasks
pub mod NewTasks
pub mod Making
pub mod StartsNow
pub mod Defers
pub mod TaskKeeps
