-- Looks at the slots.
pub mod RowLoads
pub mod LooksOn
pub mod SlotLoads
pub mod WaitStates
pub mod WaitEnds
pub mod Tests
pub mod GroupTests
pub mod Takes
pub mod InHand
pub mod TaskFunctions
pub mod Hands
pub mod Fills
pub mod ApartBodies
pub mod Starts
pub mod GroupEnds
pub mod LookKeeps
