pub mod Numbers
pub mod Flushed
pub mod Unbroken
pub mod Standing
pub mod Rounds
pub mod Logs
