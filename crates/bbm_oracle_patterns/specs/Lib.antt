pub mod Kept
pub mod Lasts
pub mod PlacePhases
pub mod Relation
pub mod Walk
