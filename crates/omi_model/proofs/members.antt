-- Members of teams and explicit tasks: their lists, ends and barriers, the chains that they stand in, and who made them.
pub mod FirstLists
pub mod ClosingItems
pub mod EndSteps
pub mod MemberEnds
pub mod MembersInStep
pub mod ListOrder
pub mod Lineages
pub mod BegunChains
pub mod Encounters
pub mod EncounterLaws
pub mod WholeTeams
