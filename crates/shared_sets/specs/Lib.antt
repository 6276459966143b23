-- for readers of the promise
pub mod Equality
pub mod Tables
-- case by case, for proofs
pub mod EqualityCases
pub mod RequestCases
