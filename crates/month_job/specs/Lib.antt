pub mod Cells
pub mod Jobs
pub mod Corrected
pub mod Reports
pub mod Requests
