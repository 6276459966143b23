pub mod RangeNumbers
pub mod Roots
