-- The actor of a thread, in reading order: its open bodies, the moves between statements, and the opening actors.
pub mod Frames
pub mod Settle
pub mod Moves
pub mod Opening
-- How bodies stand on one another, and when an actor fits a program.
pub mod Stacks
pub mod OpenBodies
pub mod Fits
-- The laws
pub mod Room
pub mod FitLaws
