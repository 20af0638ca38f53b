mod Common
pub mod WorldFaults
pub mod Marks
pub mod Numerals
pub mod Splitting
pub mod Passing
pub mod Parts
pub mod Short
pub mod Spelled
pub mod Lanes
pub mod Ahead
