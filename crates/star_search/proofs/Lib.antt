mod Sharing
mod OperatorSets
mod Glues
mod Ranges
mod Alternatives
mod Splits
