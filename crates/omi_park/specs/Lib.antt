-- The definitions to believe, in reading order: what an acknowledgement says, and what a run of threads with stops leaves. Why a thread makes
-- no further step stands in omi_seat.
pub mod Acknowledged
pub mod Parked
-- What a command line asks for, what is printed of a stop and of a run with stops, and the verb of a command
pub mod Command
pub mod Forms
pub mod Lines
pub mod Shown
pub mod Answer
-- The rule of the table of words, and what an operation on it tells a seat
pub mod Running
pub mod Plays
-- A worker and the inspector at work, and the threads before and behind their work
pub mod Work
pub mod Inspecting
pub mod Joined
-- What private functions of the top call stand on: a request as a command, and what is kept of a stop
pub mod Asked
pub mod Kept
