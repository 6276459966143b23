-- for readers of the promise
pub mod Ancestors
pub mod Faults
pub mod TextFaults
pub mod Derivations
-- for readers of the code: its tests, its walks, and what their answers say
pub mod Nodes
pub mod Places
pub mod PlaceTests
pub mod Preorder
pub mod Piles
pub mod OpenPlaces
pub mod StatementReading
pub mod NodeReading
