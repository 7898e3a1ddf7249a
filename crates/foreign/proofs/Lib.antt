pub mod Remainders
pub mod EveryCounts
