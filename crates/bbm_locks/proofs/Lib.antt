pub mod Free
pub mod Last
