-- The definitions to believe, in reading order: return codes, what callbacks tell, what a handle names, an open session, and how one is opened.
pub mod Rc
pub mod Tells
pub mod Named
pub mod Opened
pub mod Opening
-- What an inquiry reads and answers.
pub mod Reads
pub mod Inquiry
pub mod Made
pub mod Handles
-- That these are plain looks at the words.
pub mod Looked
-- What a state answers, and what calls do where the words show it.
pub mod Answers
pub mod Shown
pub mod NamesReached
