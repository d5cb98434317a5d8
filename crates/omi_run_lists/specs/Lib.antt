-- What contracts see of the two lists.
pub mod Events
pub mod Compact
pub mod Steps
-- How many steps find room.
pub mod StepRoom
-- How a list of events is kept, which its type needs.
pub mod Rows
