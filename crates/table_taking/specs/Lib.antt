-- for readers of the promise
pub mod Limits
pub mod QueryTables
pub mod Lines
pub mod Taking
pub mod Told
-- for readers of the code: its tests, its walks, and what their answers say
pub mod OneTable
