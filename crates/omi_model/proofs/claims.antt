-- Claims, asks and the lists of workers.
pub mod AsksPlaced
pub mod AsksCurrent
pub mod AsksOrder
pub mod WorkerLists
pub mod FirstThread
pub mod ClaimSteps
pub mod ClaimsKept
pub mod ClaimLaws
