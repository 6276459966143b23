-- for readers of the promise
pub mod Limits
pub mod Forms
pub mod Tokens
pub mod Statements
pub mod Depth
pub mod Refusal
-- for readers of the code: its tests, its walks, and what their answers say
pub mod Bytes
pub mod Front
pub mod Reading
