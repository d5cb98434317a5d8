-- The definitions to believe, in reading order: what a clause asks of a word, which words are judged and in which order, and the verdict.
pub mod Clauses
pub mod Search
pub mod Verdicts
-- Which words are asked for.
pub mod Listed
pub mod InOrder
-- The promise: what the records of the search are, what Yes gives, and when it comes.
pub mod Promise
-- What the code keeps of the words that it judges.
pub mod Found
-- What each part of the code finds.
pub mod Judged
