pub mod Finding
pub mod Growing
pub mod Entries
pub mod Numbering
pub mod Leading
