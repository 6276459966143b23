mod Filtered
mod AntichainLaws
mod OfferLaws
mod RunLaws
pub mod Laws
