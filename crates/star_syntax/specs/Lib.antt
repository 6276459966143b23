-- for readers of the promise
pub mod Definitions
pub mod Faults
pub mod Statements
pub mod Versions
-- for readers of the code: its tests, its walks, and what their answers say
pub mod LimitTests
