-- for readers of the promise
pub mod Widths
pub mod Weighing
-- for readers of the code: its tests, its walks, and what their answers say
pub mod UsedColumns
pub mod GatheredPredicates
