-- for readers of the promise
pub mod Words
pub mod Syntax
pub mod Faults
pub mod Fitting
pub mod TextFaults
pub mod Queries
-- for readers of the code: its tests, its walks, and what their answers say
pub mod StatementReading
pub mod NameTests
pub mod Quantifiers
pub mod LimitTests
pub mod TypeTests
