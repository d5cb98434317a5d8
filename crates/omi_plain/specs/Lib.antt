-- The definitions, in reading order.
pub mod Statements
pub mod PlainSteps
pub mod Steps
pub mod StatementLaws
pub mod StepLaws
