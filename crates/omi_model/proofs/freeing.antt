-- Giving back: what an event takes away, and how a region that is joined is given back.
pub mod WhatStays
pub mod SlotNames
pub mod Fronts
pub mod RegionsFreed
pub mod FreeingLaws
