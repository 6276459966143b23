mod Words
pub mod FaultLaws
pub mod Along
pub mod Causes
pub mod Failing
mod Emitting
mod Endings
mod PlanTexts
pub mod Targets
pub mod RunEnds
mod Verifying
mod Comments
pub mod Derived
pub mod Counted
pub mod TablesExactly
pub mod Says
pub mod Cases
pub mod OneFile
pub mod WorkloadRuns
pub mod GenEnds
mod DoneSays
mod Verdicts
pub mod Laws
