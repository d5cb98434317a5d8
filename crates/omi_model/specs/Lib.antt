-- The abstract machine, to be believed, in reading order: objects by name, and the state; to-do
-- lists; the event rules by concern, and all of them; the states that events reach.
pub mod Put
pub mod Fresh
pub mod State
pub mod Shapes
pub mod Rows
pub mod Lists
pub mod Opening
pub mod Changes
pub mod Barriers
pub mod Freeing
pub mod Groups
pub mod Teams
pub mod Tasking
pub mod Settings
pub mod Rules
pub mod Reached
-- What may be shown of a state, when a state is well formed, and what a report says of it.
pub mod Visible
pub mod WellFormed
pub mod Views
pub mod OpeningView
-- Laws of the machine, in its own words.
pub mod LawStays
pub mod LawNames
pub mod LawMembers
pub mod LawLevels
pub mod LawNthreads
pub mod LawBarriers
pub mod LawBarriersLeft
pub mod LawOrder
pub mod LawScheduling
pub mod LawChains
pub mod LawLineage
pub mod LawGroups
pub mod LawEnds
pub mod LawJoins
pub mod LawProgress
pub mod LawEncounters
pub mod LawFreeing
pub mod LawLocks
pub mod LawAsks
pub mod LawClaims
pub mod LawLists
pub mod LawWellFormed
pub mod WorkedRun
pub mod LawRun
-- How a team is kept in place, which its type needs.
pub mod Columns
pub mod ColumnLemmas
pub mod TeamBack
