-- for readers of the promise
pub mod Counts
pub mod Csv
pub mod Faults
pub mod Pieces
pub mod Records
pub mod Shelf
pub mod Sink
pub mod Named
-- for readers of the code: its tests, its walks, and what their answers say
pub mod RawTable
pub mod MemoryShelf
pub mod MemorySink
