pub mod Countdowns
