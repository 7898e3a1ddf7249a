use Rattle.std.proofs.Common.{◌*◌, ap, arith}
use Rattle.lanes.proofs.Laning.{total_few}
use Rattle.lanes.proofs.lane_count.LaneCount.total.Goals as goal

pub returns-clause-few : goal.returns-clause-few
returns-clause-few c =
    let s = c.args.self in
    omega (arith, ap (λ k. k * s.number) c.chunk_total.ensures, total_few s.number s.counted c.args.rows c.requires)
