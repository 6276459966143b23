-- for readers of the promise
pub mod CommandLine
pub mod Lines
pub mod Refusals
pub mod Given
pub mod Faults
pub mod Judging
pub mod Plan
pub mod Frontier
pub mod Verified
pub mod Tallies
pub mod Saying
pub mod Pieces
pub mod Bounds
pub mod Answers
pub mod Told
-- for readers of the code: its tests, its walks, and what their answers say
pub mod Judged
pub mod Shelves
pub mod Running
pub mod Generating
pub mod Composing
