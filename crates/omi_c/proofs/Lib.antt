pub mod Asked
pub mod AskedAgain
pub mod Audited
pub mod KnownWords
pub mod RangeTells
pub mod Scoped
