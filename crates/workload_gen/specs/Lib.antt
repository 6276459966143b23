-- for readers of the promise
pub mod Draws
pub mod Tables
pub mod Names
pub mod CatalogueText
pub mod QueryText
pub mod RulesText
pub mod Records
pub mod Workloads
-- for readers of the code: its tests, its walks, and what their answers say
pub mod Links
pub mod Trees
