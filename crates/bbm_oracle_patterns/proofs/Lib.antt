pub mod Bits
pub mod Rows
pub mod KeptNotes
pub mod Lasts
pub mod Opens
pub mod Walks
pub mod Phases
pub mod Stops
