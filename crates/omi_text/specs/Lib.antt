-- The definitions to believe, in reading order: what lines are made of, the lines of a report and the report, and the line of
-- an event.
pub mod Numbers
pub mod Lines
pub mod Names
pub mod Ids
pub mod Head
pub mod Threads
pub mod Regions
pub mod Tasks
pub mod Report
pub mod Events
-- Parts of lines, as private functions add them.
pub mod Parts
