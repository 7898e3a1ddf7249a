use Rattle.worked_lanes.proofs.LaneCases.{worked_lane_cases}
use Rattle.worked_lanes.proofs.worked_lane_cases_hold.Goals as goal

pub returns : goal.returns
returns c = worked_lane_cases
