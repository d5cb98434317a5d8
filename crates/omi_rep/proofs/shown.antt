-- A look at words that show a state: its reads, its walks along chains, and its rows.
pub mod ReadWords
pub mod Walks
pub mod Threads
pub mod Enclosing
pub mod RegionRows
pub mod Tasks
pub mod ShownViews
