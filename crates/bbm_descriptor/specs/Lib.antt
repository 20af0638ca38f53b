pub mod Fields
pub mod Descriptor
pub mod Listing
pub mod Pairs
