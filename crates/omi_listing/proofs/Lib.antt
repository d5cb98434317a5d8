pub mod RowLines
pub mod ThreadCells
