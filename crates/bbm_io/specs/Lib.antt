pub mod Byte
pub mod Faults
pub mod Flow
pub mod Memory
pub mod Reading
pub mod Streams
