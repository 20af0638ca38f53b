pub mod InOutputs
pub mod Kept
pub mod Unmapped
pub mod Targets
pub mod Covering
