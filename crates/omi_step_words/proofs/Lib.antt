pub mod Places
pub mod ReadBack
pub mod Rising
pub mod Grouped
