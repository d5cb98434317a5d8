-- The definitions to believe, in reading order: what is asked about, the table of control variables, and how their values are spelled.
pub mod Scopes
pub mod Table
pub mod Spellings
-- What each inquiry reads and answers.
pub mod Records
pub mod Values
pub mod Icvs
pub mod StateWords
pub mod Display
pub mod Enumeration
pub mod Written
-- What a state answers, and of what.
pub mod Subjects
pub mod StateValues
