-- The definitions to believe, in reading order: the numbers and names of fields, the records that they belong to, the layout table, valid layouts, the places of records and words, and the families.
pub mod Named
pub mod Field
pub mod Table
pub mod Valid
pub mod Place
pub mod Words
pub mod Family
-- The words in front of the records, and the layout that words give.
pub mod Front
pub mod Given
pub mod NoLayout
pub mod OneAnswer
-- Memory by records, its laws, and the opening words.
pub mod Memory
pub mod Frame
pub mod OpeningWords
-- What private functions of the code stand on: the parts of the judging of a table, and records that are filled.
pub mod Judged
pub mod Plan
