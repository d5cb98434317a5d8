pub mod Addresses
pub mod Symbols
