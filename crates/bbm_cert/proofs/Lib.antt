mod Common
pub mod JudgedLaw
pub mod Verified
