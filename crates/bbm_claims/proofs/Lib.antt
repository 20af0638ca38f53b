mod Common
pub mod Tests
pub mod OneMore
pub mod Marked
pub mod Claimed
pub mod Kepts
pub mod Flushed
pub mod Cleansed
pub mod TagSteps
pub mod Takers
pub mod HeldTags
pub mod LeftTags
pub mod Lasting
