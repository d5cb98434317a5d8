-- The lemmas.
pub mod ThreadWords
pub mod FewContexts
pub mod Listings
