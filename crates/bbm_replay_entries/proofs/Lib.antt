pub mod Since
pub mod Marks
pub mod Places
pub mod Phases
