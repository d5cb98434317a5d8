-- Numbers beside their names, and values as words and addresses.
pub mod Names
pub mod States
pub mod Variables
pub mod Schedules
pub mod Addresses
pub mod Words
pub mod Lives
pub mod Holders
