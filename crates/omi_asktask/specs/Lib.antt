-- The definitions to believe, in reading order: what each inquiry reads and answers, and what the name of a task is.
pub mod Tasks
pub mod Frame
pub mod TaskWords
pub mod FramesOf
pub mod Names
