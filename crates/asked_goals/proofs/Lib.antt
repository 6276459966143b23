mod Parts
mod Alternatives
mod Turns
mod GoalLaws
pub mod Laws
