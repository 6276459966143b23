-- for readers of the promise
pub mod Words
pub mod Defined
pub mod Beyond
pub mod Faults
pub mod Catalogues
-- for readers of the code: its tests, its walks, and what their answers say
pub mod NameSets
pub mod Known
pub mod LimitTests
pub mod Resolving
pub mod Reading
pub mod Statements
pub mod Judged
