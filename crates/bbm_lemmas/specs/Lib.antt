pub mod Elements
pub mod EveryPe
pub mod ListWords
