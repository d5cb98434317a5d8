-- The definitions to believe, in reading order: a run that goes back and forward, and what each of its calls answers.
pub mod Rewound
pub mod Answers
-- A test of words, and what is kept of one
pub mod Tests
-- What a rewind keeps. No public clause cites this
pub mod Keeps
