mod Counting
mod DefinitionLaws
mod LimitLaws
mod StarCounts
mod RulesMore
mod SoFarLaws
mod VersionLaws
mod StatementNumbers
mod SpelledRules
mod ReadLaws
mod WellFormedLaws
mod FaultLaws
mod Defining
mod Verdicts
pub mod Laws
