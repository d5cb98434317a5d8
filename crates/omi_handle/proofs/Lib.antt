pub mod HeldLemmas
pub mod Histories
