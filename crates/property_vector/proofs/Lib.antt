mod CanonWalks
mod Antisymmetry
mod CostsFirst
pub mod Laws
