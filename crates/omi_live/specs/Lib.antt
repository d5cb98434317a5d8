-- The definitions to believe, in reading order: what threads do at the table of words, and what a run of threads is. Why a thread stops stands
-- in omi_seat.
pub mod Accesses
pub mod Live
-- What a command line asks for, a run of threads by a plan, and the verb of a command
pub mod Command
pub mod Forms
pub mod Run
pub mod Answer
-- The rule of the table of words, and what an operation on it tells a seat
pub mod Running
pub mod Plays
-- A thread at work, and the threads before and behind their work
pub mod Work
pub mod Joined
-- What private functions of the top call stand on: a request as a command
pub mod Asked
