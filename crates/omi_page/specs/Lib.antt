-- What the refusal of a lower crate is here.
pub mod Faults
-- Where the words of a core stand in its file.
pub mod Spans
-- What an opening call answers beside what reading gives.
pub mod Bounds
pub mod Outcomes
pub mod Left
-- What is told, what the file of a core is, and what is kept of it.
pub mod Told
pub mod CoreFiles
pub mod Paging
pub mod Borrowed
pub mod Lending
-- Words of which each may be missing.
pub mod AllWords
