-- Which slots a walk has met, and what meeting one more object changes.
pub mod Marks
pub mod Marked
-- What is walked so far of a chain, and of the regions that are reported.
pub mod Chains
pub mod Reported
