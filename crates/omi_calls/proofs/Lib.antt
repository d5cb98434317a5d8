pub mod Segments
pub mod ToldSymbols
pub mod ImageWords
