-- Fronts of a run: the words and the events behind its first steps.
pub mod Fronts
-- What a rewind keeps when it is opened, and over one step more.
pub mod Stays
pub mod Opened
pub mod Stepped
-- A test over the steps of a run.
pub mod Searched
