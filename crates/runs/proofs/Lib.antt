pub mod Partly
pub mod Pasts
pub mod Joins
pub mod Leading
pub mod Dealing
