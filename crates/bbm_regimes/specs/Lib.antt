pub mod Extent
pub mod PeMask
pub mod Registers
pub mod SameRegister
pub mod World
