-- for readers of the promise
pub mod Antichains
pub mod Gathering
pub mod Offers
-- for readers of the code: its tests, its walks, and what their answers say
pub mod Iterating
-- case by case, for proofs
pub mod GatheringCases
