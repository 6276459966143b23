-- for readers of the promise
pub mod LoadedTables
pub mod Types
-- for readers of the code: its tests, its walks, and what their answers say
pub mod PinOrders
pub mod Codes
pub mod Groups
pub mod Numbers
