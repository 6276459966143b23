mod Doubling
mod RowReading
