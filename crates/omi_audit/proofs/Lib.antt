pub mod Leads
-- The search, over lists of numbers and then over the records of a layout.
pub mod FirstOnes
pub mod Rounds
pub mod Reaches
-- What is known of what was met.
pub mod LivesThere
-- What words name, and how they are judged.
pub mod NamedWords
pub mod KeptOn
pub mod Asking
pub mod JudgedPlaces
pub mod JudgedRecords
pub mod AskedRecords
pub mod JudgedSearch
pub mod JudgedAll
pub mod AskedAll
-- Chains, and their walks.
pub mod Walks
pub mod Chained
pub mod Followed
pub mod ChainsEnd
-- The state that is shown where no clause fails.
pub mod Passes
pub mod Built
pub mod BuiltRight
pub mod BuiltShows
-- States that events reach.
pub mod ItemRanges
pub mod RangesKept
pub mod ReachedRanges
pub mod GroupWords
pub mod ReachedRecords
pub mod ReachedClear
-- What is answered, and what the verdict gives.
pub mod Answered
pub mod Verdicts
