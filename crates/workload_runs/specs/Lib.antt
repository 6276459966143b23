-- for readers of the promise
pub mod Counts
pub mod AskedFrontiers
pub mod Cases
pub mod TableRows
pub mod Tallies
pub mod Runs
-- for readers of the code: its tests, its walks, and what their answers say
pub mod Made
pub mod AcceptedTexts
pub mod HeldRows
pub mod Chosen
pub mod RulesTree
