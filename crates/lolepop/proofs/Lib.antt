mod ArityLaws
mod OwnColumns
mod UsedColumns
mod NoInput
mod NoPredicates
mod WidthCases
mod WidthLaws
mod DerivedLaws
mod FitLaws
mod FlavourLaws
mod StepLaws
mod ServeLaws
pub mod Laws
