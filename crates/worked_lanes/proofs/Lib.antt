pub mod Laned
pub mod LaneCases
