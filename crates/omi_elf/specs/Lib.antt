-- The definitions to believe, in reading order.
pub mod Header
pub mod Notes
pub mod Segments
pub mod Table
pub mod Faults
pub mod Spelling
pub mod ElfCore
-- How the words are gathered, and what is read by it; what a reading function of the code answers.
pub mod Gathered
pub mod ElfParts
pub mod Found
pub mod Outcomes
