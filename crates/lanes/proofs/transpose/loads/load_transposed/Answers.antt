use Rattle.std.proofs.Common.{length, take, refl, arith}
use Rattle.patches.specs.declared.refusal.Part.TheVariants.{Lanes as LanesPart}
use Rattle.lanes.specs.Transposes.{transpose_rules}
use Rattle.lanes.proofs.TransposedTrips.{room_kept, part_is, round_trip, judged_both}
use Rattle.lanes.proofs.transpose.loads.load_transposed.Goals as goal

pub slice_bounds-entries-end : goal.slice_bounds-entries-end
slice_bounds-entries-end g c =
    let m = g.S.PatchSet.meaning c.args.set.now in
    let done = c.in_ok-sizes.ensures in
    omega (arith, done.written.entry_count, done.written.entries_length, (room_kept m c.args.lanes (length c.args.out_offsets.now) (length c.args.out_entries.now) (length c.args.out_values.now) done.judged).1)

pub returns : goal.returns
returns g c =
    let m = g.S.PatchSet.meaning c.args.set.now in
    let done = c.in_ok-sizes.ensures in
    let sizes = c.in_ok-sizes.sizes in
    let o = c.transpose.new.out_offsets in
    let e = c.transpose.new.out_entries in
    let x = c.transpose.new.out_values in
    record {
      judged = judged_both LanesPart m c.args.lanes (take sizes.offsets o) (take sizes.entries e) (take sizes.entries x) _ done.written.tables c.rows.ensures refl (part_is sizes.offsets o) (part_is sizes.entries e) (part_is sizes.entries x) (transpose_rules m c.args.lanes (length c.args.out_offsets.now) (length c.args.out_entries.now) (length c.args.out_values.now)) c.load.result c.load.ensures.holds c.load.ensures.judged done.judged;
      same = round_trip LanesPart m c.args.lanes (take sizes.offsets o) (take sizes.entries e) (take sizes.entries x) _ done.written.tables c.rows.ensures refl (part_is sizes.offsets o) (part_is sizes.entries e) (part_is sizes.entries x) c.load.result c.load.ensures.judged c.load.ensures.holds;
    }
