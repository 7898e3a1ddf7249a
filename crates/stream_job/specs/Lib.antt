pub mod Lookups
pub mod Works
