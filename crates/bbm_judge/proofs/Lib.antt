pub mod Leasts
pub mod Lists
pub mod Paths
pub mod RuleLemmas
pub mod Stands
pub mod TableLemmas
