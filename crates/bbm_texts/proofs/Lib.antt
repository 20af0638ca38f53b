mod Common
pub mod Refusals
pub mod Puts
pub mod Pouring
pub mod ManyLines
pub mod MarkedLines
pub mod ConflictRuns
pub mod Selftests
