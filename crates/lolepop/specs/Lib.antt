-- for readers of the promise
pub mod Inputs
pub mod PlanTrees
pub mod Nodes
pub mod Applying
pub mod Traces
pub mod Derived
-- for readers of the code: its tests, its walks, and what their answers say
pub mod OwnColumns
pub mod UsedColumns
pub mod PlanTreeCode
pub mod Below
pub mod NodeSizes
pub mod DerivedCode
pub mod Widths
