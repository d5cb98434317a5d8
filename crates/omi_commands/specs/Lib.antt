-- The definitions to believe, in reading order: the options, the core that a run leaves, and the lines of events and threads
pub mod Options
pub mod Forms
pub mod Cores
pub mod EventLines
pub mod RunLines
-- What a refusal of the library is handed on as, and what became of tasks between two stops
pub mod Inquiries
pub mod Fates
-- What the view of an image stands on
pub mod Imaged
