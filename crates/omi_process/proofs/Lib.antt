pub mod AlongNotes
pub mod AlongSegments
pub mod ElfCores
pub mod PartWords
pub mod Rows
pub mod EachOnce
pub mod OneProcess
