pub mod Steps
pub mod Events
pub mod Attempts
pub mod Shown
