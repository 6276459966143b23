-- for readers of the promise
pub mod RowLines
-- for readers of the code: its tests, its walks, and what their answers say
pub mod Picks
pub mod Whole
