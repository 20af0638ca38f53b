mod CaseWords
mod CasesEdges
mod CasesEnds
pub mod Words
pub mod Labels
pub mod Starts
pub mod Roots
