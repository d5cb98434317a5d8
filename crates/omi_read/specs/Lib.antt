-- What a file that is read piece by piece holds.
pub mod Holding
