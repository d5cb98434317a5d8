-- The definitions to believe, in reading order: what a run is, what a step of it does and what its words show, what a list of steps
-- makes, what a thread makes of the words that it finds, and what a run keeps.
pub mod Runs
pub mod RunSteps
pub mod Steps
pub mod Found
pub mod Histories
pub mod Kept
pub mod RecordedSteps
-- A run by a schedule: which thread makes each step, and where the run ends
pub mod Schedules
pub mod Ends
pub mod ScheduledRuns
pub mod Recorded
pub mod StepsOf
-- The laws
pub mod DeferLaws
