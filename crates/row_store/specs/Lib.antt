-- for readers of the promise
pub mod Faults
pub mod Loading
pub mod Numbers
pub mod Tables
pub mod Cells
pub mod Indexes
pub mod Comparing
-- for readers of the code: its tests, its walks, and what their answers say
pub mod Columns
pub mod Reading
