mod BoolLemmas
pub mod MomentLemmas
pub mod StandingLemmas
pub mod NumberLemmas
pub mod PlaceLemmas
pub mod RootLemmas
pub mod TagLemmas
pub mod WatchLemmas
