pub mod Marks
pub mod Everies
