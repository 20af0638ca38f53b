pub mod RangeOperand
pub mod RangePages
