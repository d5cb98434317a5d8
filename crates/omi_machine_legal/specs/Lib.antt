-- The parts of event rules that are decided one by one, for private functions alone.
pub mod Decided
