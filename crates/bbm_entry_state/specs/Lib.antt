pub mod Marking
pub mod Points
pub mod Answered
pub mod EntryCalls
pub mod EntrySteps
pub mod EntryPatterns
pub mod EntryStanding
