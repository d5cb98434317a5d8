mod Alongs
mod ChainWalks
mod KnownThreads
mod LiveNames
mod MarkLemmas
mod RegionRows
mod RegionWalks
mod Takes
