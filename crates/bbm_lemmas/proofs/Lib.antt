pub mod Elements
pub mod Bools
pub mod Tautologies
pub mod Every
pub mod Words
pub mod Reversed
pub mod Tests
pub mod Numbers
