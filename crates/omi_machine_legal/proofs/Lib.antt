pub mod KeptSlots
pub mod NewTeams
