pub mod Locks
pub mod Sets
pub mod Fitting
pub mod StayPlaced
pub mod OpeningPlaced
