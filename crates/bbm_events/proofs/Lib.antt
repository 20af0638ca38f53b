mod Common
pub mod CertificateLines
pub mod Codecs
pub mod Counts
pub mod HeaderLines
pub mod ItemLines
pub mod Joining
pub mod Labels
pub mod LineFields
pub mod MachineLines
pub mod OneSpelling
pub mod Ranges
pub mod Tables
pub mod WordRows
pub mod WordsRead
