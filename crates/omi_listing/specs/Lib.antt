-- The definitions to believe, in reading order: how the text of a table is made of its cells, and which cells the table of threads has.
pub mod Table
pub mod Cells
pub mod Named
pub mod Threads
-- The widths of columns in a list, as the code keeps them.
pub mod Widths
