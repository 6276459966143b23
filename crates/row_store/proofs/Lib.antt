mod Integers
mod Places
mod Collected
mod CellLaws
mod ValueOrder
mod SortedPairs
mod IndexLaws
mod OneIndex
mod RowFaults
mod HeaderColumns
mod FirstFaults
mod RowsFirst
mod KeptNumbers
mod Loaded
mod OneFault
mod RowsRead
mod RowTypes
pub mod Laws
