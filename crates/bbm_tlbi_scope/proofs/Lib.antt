pub mod Agreeing
pub mod Ranging
pub mod TakesCovers
