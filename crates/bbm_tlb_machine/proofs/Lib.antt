mod AfterEvent
mod Cases
mod Covered
pub mod Descs
mod EventSteps
mod Facts
mod FineSteps
pub mod FollowSteps
pub mod GivenUp
mod Grades
mod InTrees
mod IsolatedLaw
mod ListWords
pub mod LookBack
mod Made
pub mod MadeLemmas
pub mod PartLemmas
mod Patterns
pub mod PendingSteps
mod ReadLogs
mod Regions
mod RootSizes
mod Roots
mod RunLaw
pub mod RunTexts
mod Runs
mod SafeLaw
mod Scopes
mod Taken
