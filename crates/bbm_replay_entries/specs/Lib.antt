pub mod KnownOfEntries
pub mod EntryEvents
pub mod Marked
pub mod EntryPhases
pub mod EntryStands
pub mod EntryLaws
