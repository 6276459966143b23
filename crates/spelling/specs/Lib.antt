-- for readers of the promise
pub mod Lexemes
pub mod Layout
pub mod Names
pub mod Tables
pub mod Firsts
pub mod Limits
pub mod FormedLexemes
pub mod Answers
-- for readers of the code: its tests, its walks, and what their answers say
pub mod Reading
pub mod Cursors
pub mod Writing
pub mod Syntax
pub mod SeriesReading
pub mod Joining
pub mod SpelledSeries
pub mod Shallow
-- case by case, for proofs
pub mod FirstsCases
pub mod LimitsCases
pub mod ReadingCases
pub mod SeriesReadingCases
pub mod SeriesLoopCases
