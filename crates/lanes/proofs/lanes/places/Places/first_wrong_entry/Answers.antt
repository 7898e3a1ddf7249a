use Rattle.std.proofs.Common.{◌+◌, ◌<◌, length, arith}
use Rattle.lanes.proofs.LaneOffsets.{begin_top, wrong_from, right_before, right_all}
use Rattle.lanes.proofs.lanes.places.Places.first_wrong_entry.Goals as goal

pub first_wrong_in-requires-clause-places : goal.first_wrong_in-requires-clause-places
first_wrong_in-requires-clause-places c =
    let p = c.args.self.now in
    begin_top p.offsets.now p.entries.now c.requires (c.loop-lane.lane + 1) (omega arith)

pub returns-in-Some : goal.returns-in-Some
returns-in-Some c =
    let p = c.args.self.now in
    let l = c.loop-lane in
    let found = c.in-Some.ensures in
    let there : l.lane + 1 < length p.offsets.now = omega arith in (
      wrong_from p.offsets.now p.entries.now c.requires p.rows p.lanes.number l.lane there c.in-Some.place found.0,
      (λ k h. right_before p.offsets.now p.entries.now c.requires p.rows p.lanes.number l.lane there k (omega (arith, found.0)) (l.invariant k) (found.1 k h)),
    )

pub loop-lane-preserved : goal.loop-lane-preserved
loop-lane-preserved c =
    let p = c.args.self.now in
    let l = c.loop-lane in
    let there : l.lane + 1 < length p.offsets.now = omega arith in
    λ k h. right_before p.offsets.now p.entries.now c.requires p.rows p.lanes.number l.lane there k h (l.invariant k) (c.in_default.ensures k)

pub returns : goal.returns
returns c =
    let p = c.args.self.now in
    let l = c.loop-lane in
    right_all p.offsets.now p.entries.now c.requires p.rows p.lanes.number l.lane (omega (arith, p.offset_count)) l.invariant
