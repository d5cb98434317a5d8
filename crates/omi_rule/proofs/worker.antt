-- The steps of a worker.
pub mod WorkerEvents
pub mod WorkerLoads
pub mod WorkerBegins
pub mod WorkerEnds
pub mod WorkerKeeps
