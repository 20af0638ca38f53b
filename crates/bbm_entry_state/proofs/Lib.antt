pub mod Searches
pub mod Completing
pub mod Taking
pub mod Shown
