pub mod LeastClaims
pub mod KnownOfCertificates
pub mod Making
pub mod Orders
pub mod DueAt
pub mod Taken
pub mod Made
