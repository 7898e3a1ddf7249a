pub mod LaneRules
pub mod LaneCounts
pub mod LaneSets
pub mod LaneLoads
pub mod LaneMeaning
pub mod Transposes
