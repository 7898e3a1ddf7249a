use Rattle.std.proofs.Common.{◌+◌, inl, arith}
use Rattle.lanes.proofs.Laning.{total_few}
use Rattle.lanes.proofs.LaneOffsets.{begin_top}
use Rattle.lanes.proofs.lanes.places.Places.wrong_place.Goals as goal

pub overflow_add-result : goal.overflow_add-result
overflow_add-result c =
    let p = c.args.self.now in
    let found = c.in_ok-place.ensures.0 in
    omega (arith, p.offset_count, found.1, begin_top p.offsets.now p.entries.now c.in_default.ensures (found.0 + 1) found.1.0, total_few p.lanes.number p.lanes.counted p.rows p.few)

pub returns-in-Some : goal.returns-in-Some
returns-in-Some c = inl c.in-Some.ensures.0
