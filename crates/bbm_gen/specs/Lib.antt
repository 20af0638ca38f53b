pub mod BelowGen
pub mod Generated
