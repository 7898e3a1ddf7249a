pub mod Lists
pub mod Places
pub mod Known
pub mod Cases
