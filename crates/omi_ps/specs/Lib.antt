-- The definitions to believe, in reading order: which threads are listed, and how what is listed is printed.
pub mod Recorded
pub mod Listing
pub mod Text
