-- Texts cut into pieces, and words that are numbers.
pub mod Conjunctions
pub mod PieceLemmas
pub mod LineLemmas
pub mod PairLemmas
pub mod NumberLemmas
pub mod DigitLemmas
pub mod RangeLemmas
-- The lines of an accepted text lead to a program that keeps the rules, and a text has one verdict.
pub mod LineRanges
pub mod StateLemmas
pub mod NamingLemmas
pub mod SoundStates
pub mod SoundLines
pub mod SoundVerdicts
pub mod SoundPrograms
pub mod VerdictLemmas
pub mod OneProgram
-- The parser answers what the definition says.
pub mod ReachLemmas
pub mod ParserLemmas
pub mod JudgeLemmas
pub mod EndLemmas
-- A canonical text says its program.
pub mod CanonicalLines
pub mod CanonicalNumbers
pub mod CanonicalWords
pub mod CanonicalSteps
pub mod CanonicalNames
pub mod CanonicalStatements
pub mod CanonicalFunctions
pub mod CanonicalHeads
pub mod CanonicalPrograms
-- The rules of a program as plain facts.
pub mod KnownLemmas
pub mod RuleLemmas
-- The definitions at examples that were worked by hand.
mod Examples
mod VerdictExamples
