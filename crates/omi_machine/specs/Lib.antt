-- What the plain program keeps of a state. Behind it stands glue of private functions.
pub mod Kept
pub mod KeptSlots
pub mod NewMembers
pub mod Needs
