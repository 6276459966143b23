-- for readers of the promise
pub mod RuleLimits
pub mod RuleWords
pub mod Rules
pub mod Tiny
pub mod Values
-- for readers of the code: its tests, its walks, and what their answers say
pub mod ConditionReading
pub mod FormulaHeads
pub mod PlanReading
pub mod SelectHeads
pub mod StarReading
pub mod ValueReading
