-- The definitions, in reading order.
pub mod Slots
pub mod Starts
pub mod Groups
pub mod MakingSteps
pub mod LookSteps
pub mod FinishSteps
pub mod Steps
pub mod SlotLaws
