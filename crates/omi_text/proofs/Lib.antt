pub mod Rows
pub mod Joined
pub mod Teams
pub mod Whole
