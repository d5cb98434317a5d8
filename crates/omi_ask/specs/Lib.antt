-- The definitions to believe, in reading order: what each inquiry reads and answers, and what the names and the order of handles are.
pub mod Threads
pub mod Regions
pub mod Names
