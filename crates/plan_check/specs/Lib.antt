-- for readers of the promise
pub mod Judged
-- for readers of the code: its tests, its walks, and what their answers say
pub mod Places
pub mod Bound
