-- The definitions to believe: what an opened core is and why one isn't opened; what a step along a chain answers; and that a tool looked.
pub mod LowestFirst
pub mod Opened
pub mod Faults
pub mod Chains
pub mod Targets
