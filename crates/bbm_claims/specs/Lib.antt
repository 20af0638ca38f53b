pub mod Marks
pub mod Flushes
pub mod Cleansings
pub mod Spans
pub mod Takings
pub mod Holdings
pub mod KnownOfClaims
pub mod TakenByClaims
