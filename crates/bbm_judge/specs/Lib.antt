pub mod Flaws
pub mod Judges
pub mod Lesser
pub mod TablePages
