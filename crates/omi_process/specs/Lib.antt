-- The definitions to believe, in reading order.
pub mod Words
pub mod Ids
pub mod Table
pub mod ProcessCore
pub mod Contexts
-- What the functions of the code answer.
pub mod Reading
pub mod Outcomes
