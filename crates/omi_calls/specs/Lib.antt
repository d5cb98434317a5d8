pub mod Told
pub mod Asked
pub mod Answers
pub mod Kept
pub mod CoreWords
pub mod Memory
pub mod CoreCalls
