pub mod ShownThreads
pub mod ShownRegions
