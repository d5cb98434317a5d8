-- Steps of joins.
pub mod Departures
pub mod LoadsLeft
pub mod BodiesUnder
pub mod NextMember
pub mod Joined
pub mod MemberLoads
pub mod MemberFreed
pub mod RegionFreed
pub mod JoinKeeps
