-- Steps of barriers.
pub mod RowsOfBarriers
pub mod AtCounter
pub mod AtBarrier
pub mod Arrivals
pub mod Loads
pub mod Events
pub mod StateStores
pub mod States
pub mod Releases
pub mod Constructs
pub mod Passes
pub mod ArrivedBodies
pub mod Arrives
pub mod Counters
