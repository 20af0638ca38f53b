pub mod Flow
pub mod Readers
pub mod Newlines
