mod Lists
mod Places
mod Inserting
mod UnknownNames
mod Repeats
pub mod Loops
pub mod PartsSpelled
pub mod PartsRead
pub mod QuerySpelled
pub mod QueryRead
mod LimitLaws
mod TypeLaws
mod Formed
mod Resolving
pub mod StatementLaws
pub mod Laws
mod Found
mod Meaning
mod NameWords
mod FormedQuery
mod FaultLaws
mod Judging
mod GoodQuery
mod Clear
mod QueryLaws
mod SmallestText
mod Verdicts
