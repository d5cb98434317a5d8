-- The end of an explicit task.
pub mod Finished
pub mod FinishLoads
pub mod GivenTasks
pub mod Makers
pub mod ChildrenLowered
pub mod GroupLoads
pub mod CountLowered
pub mod ReferencesLowered
pub mod Freed
pub mod AboveLoads
pub mod AboveLowered
pub mod PendingLowered
pub mod FinishKeeps
