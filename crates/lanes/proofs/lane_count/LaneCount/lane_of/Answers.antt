use Rattle.lanes.proofs.Laning.{lane_few}
use Rattle.lanes.proofs.lane_count.LaneCount.lane_of.Goals as goal

pub returns-clause-few : goal.returns-clause-few
returns-clause-few c = lane_few c.args.self.number c.args.self.counted c.args.row c.requires
