pub mod Moments
pub mod HeldTagSets
pub mod Keepers
pub mod Watches
