pub mod LaneCases
