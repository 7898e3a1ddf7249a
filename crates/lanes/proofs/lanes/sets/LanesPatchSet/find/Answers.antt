use Rattle.std.proofs.Common.{◌≡◌, ℕ, ◌+◌, ◌<◌, ◌%◌, Some, None, length, subst, ap, ◌∙◌, arith, rules}
use Rattle.lanes.specs.LaneLoads.{First}
use Rattle.lanes.specs.LaneRules.{lane_of}
use Rattle.lanes.specs.LaneMeaning.{patch_in, IsAt}
use Rattle.lanes.proofs.LaneAnswers.{lane_there, begin_within, found_patch, missed_patch}
use Rattle.lanes.proofs.lanes.sets.LanesPatchSet.find.Goals as goal

pub place_in-requires-clause-lane : goal.place_in-requires-clause-lane
place_in-requires-clause-lane g c =
    let s = c.args.self.now in
    let is : c.lane_of-lane.result ≡ lane_of s.places.lanes.number c.args.r = c.lane_of-lane.ensures.is ∙ ap (lane_of s.places.lanes.number) (omega arith) in
    omega (arith, is, lane_there s c.args.r c.if-r-self.false)

pub place_in-requires-clause-places : goal.place_in-requires-clause-places
place_in-requires-clause-places g c =
    let s = c.args.self.now in
    let is : c.lane_of-lane.result ≡ lane_of s.places.lanes.number c.args.r = c.lane_of-lane.ensures.is ∙ ap (lane_of s.places.lanes.number) (omega arith) in
    begin_within s (c.lane_of-lane.result + 1) (omega (arith, is, lane_there s c.args.r c.if-r-self.false))

pub returns-in_err-place : goal.returns-in_err-place
returns-in_err-place g c =
    let s = c.args.self.now in
    let is : c.lane_of-lane.result ≡ lane_of s.places.lanes.number c.args.r = c.lane_of-lane.ensures.is ∙ ap (lane_of s.places.lanes.number) (omega arith) in
    c.from_residual.ensures ∙ missed_patch s c.args.r c.if-r-self.false (subst (λ (lane : ℕ). First (IsAt s.places.offsets.now s.places.entries.now lane (c.args.r % 1024)) None) is c.in_err-place.ensures)

pub offset_bounds-self-place : goal.offset_bounds-self-place
offset_bounds-self-place g c =
    let s = c.args.self.now in
    let is : c.lane_of-lane.result ≡ lane_of s.places.lanes.number c.args.r = c.lane_of-lane.ensures.is ∙ ap (lane_of s.places.lanes.number) (omega arith) in
    let h : c.in_ok-place.place < length s.values.now = omega (arith, s.value_count, c.in_ok-place.ensures.0, begin_within s (c.lane_of-lane.result + 1) (omega (arith, is, lane_there s c.args.r c.if-r-self.false))) in
    search rules

pub bounds-self-place : goal.bounds-self-place
bounds-self-place g c =
    let s = c.args.self.now in
    let is : c.lane_of-lane.result ≡ lane_of s.places.lanes.number c.args.r = c.lane_of-lane.ensures.is ∙ ap (lane_of s.places.lanes.number) (omega arith) in
    omega (arith, s.value_count, c.in_ok-place.ensures.0, begin_within s (c.lane_of-lane.result + 1) (omega (arith, is, lane_there s c.args.r c.if-r-self.false)))

pub returns : goal.returns
returns g c =
    let s = c.args.self.now in
    let is : c.lane_of-lane.result ≡ lane_of s.places.lanes.number c.args.r = c.lane_of-lane.ensures.is ∙ ap (lane_of s.places.lanes.number) (omega arith) in
    subst (λ v. Some v ≡ patch_in s c.args.r) c.index-self-place.is (found_patch s c.args.r c.in_ok-place.place c.index-self-place.result c.if-r-self.false (subst (λ (lane : ℕ). First (IsAt s.places.offsets.now s.places.entries.now lane (c.args.r % 1024)) (Some c.in_ok-place.place)) is c.in_ok-place.ensures) c.index-self-place.is)
