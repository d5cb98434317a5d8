-- Task groups over every event.
pub mod GroupLists
pub mod OpenCounts
pub mod GroupsNested
pub mod GroupMembers
pub mod GroupLaws
