pub mod Cores
pub mod Shifts
pub mod Regions
pub mod Listing
pub mod Forms
pub mod WalkSteps
