mod Cheapest
mod LineOrderLaws
mod Targets
mod SortedLines
mod Existence
pub mod Laws
