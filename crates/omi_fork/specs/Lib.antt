-- The definitions, in reading order.
pub mod WorkerSteps
pub mod TeamParts
pub mod TeamSteps
pub mod BarrierSteps
pub mod JoinSteps
pub mod Steps
