mod Steps
mod Sets
mod Runs
pub mod Laws
mod RootWriting
mod RuleBodies
