mod Reading
mod PinWalks
mod SearchRules
mod Skipped
mod PinOrderLaws
pub mod Laws
