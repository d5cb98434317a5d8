-- The definitions to believe: how objects stand in words, when words show a state, and what a plain look at words gives.
pub mod Records
pub mod Codes
pub mod Shows
pub mod Look
pub mod LookView
pub mod Suits
-- The laws
pub mod Unique
pub mod Opened
pub mod ShownLooks
