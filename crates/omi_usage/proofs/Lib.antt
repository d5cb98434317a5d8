pub mod Words
pub mod Parts
pub mod Options
pub mod Places
pub mod Silent
