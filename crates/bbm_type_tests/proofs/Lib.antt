mod Common
pub mod Rows
pub mod CasesFields
pub mod CasesOptions
pub mod CasesScopes
pub mod CasesTaken
pub mod CasesPlaces
pub mod CasesFitting
pub mod CasesSteps
pub mod CasesSpelling
