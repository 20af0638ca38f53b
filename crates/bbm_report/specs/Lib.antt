pub mod Further
pub mod ReportLines
pub mod Questions
