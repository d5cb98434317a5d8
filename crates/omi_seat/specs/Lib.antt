-- In reading order: what is known of a thread by its steps, and the claims among these.
pub mod Claims
pub mod Known
-- Seats, each of which stands for threads
pub mod Seats
-- The run behind the words of a table, and the next step of a thread of it
pub mod Behind
-- Why a thread makes no further step
pub mod Stops
-- What a thread keeps of its steps, and its operations on words of a table
pub mod StepLog
pub mod Applied
-- A worker, which is both; and the workers of all threads, before their first steps and behind their last ones
pub mod Worker
pub mod Workers
-- What a gate is made with
pub mod Gates
