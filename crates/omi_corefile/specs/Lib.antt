-- The definitions to believe, in reading order: the bytes of a word, what a core may hold, its bytes, how a file is read and refused, and the
-- numbers and names of the faults.
pub mod ByteOrder
pub mod Limits
pub mod Spelling
pub mod Refusals
pub mod Faults
-- What a field that holds a bad value is, for the law on such fields.
pub mod BadFields
-- What a reading function of the code answers beside what reading gives.
pub mod Outcomes
