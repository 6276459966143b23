mod ListedChains
mod ChainOffers
mod GlueLaws
pub mod Laws
