-- for readers of the promise
pub mod FileFaults
pub mod Findings
pub mod Offences
pub mod CycleFaults
pub mod Sizes
pub mod Passing
pub mod CheckedFiles
-- for readers of the code: its tests, its walks, and what their answers say
pub mod FirstStatements
pub mod Strange
pub mod Repeated
pub mod KindTests
pub mod Reaching
pub mod Owning
pub mod Heights
pub mod SoundPlaces
pub mod Checking
