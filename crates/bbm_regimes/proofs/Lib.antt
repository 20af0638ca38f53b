pub mod Intervals
pub mod Masks
