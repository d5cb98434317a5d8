pub mod TakenItems
pub mod KeptLists
pub mod KeptSlotLemmas
pub mod StateChanges
pub mod GrownSlots
pub mod ChangesBack
pub mod TeamsMade
pub mod AfterEvents
