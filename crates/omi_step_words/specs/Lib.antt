-- The definitions, in reading order.
pub mod Words
pub mod Members
pub mod Placed
pub mod Plan
pub mod Outcomes
pub mod Searches
pub mod Moving
pub mod WordLaws
pub mod PlanLaws
