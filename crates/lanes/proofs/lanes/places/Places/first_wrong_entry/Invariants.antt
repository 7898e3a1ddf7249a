use Rattle.std.proofs.Common.{ℕ, ◌<◌}
use Rattle.lanes.specs.LaneRules.{begin_of, WrongEntry}
use Rattle.lanes.proofs.lanes.places.Places.first_wrong_entry.Given as goal

abbrev pub invariant-loop-lane : goal.invariant-loop-lane
invariant-loop-lane l =
    (k : ℕ) → k < begin_of l.self.offsets.now l.self.entries.now l.lane → WrongEntry l.self.offsets.now l.self.entries.now l.self.rows l.self.lanes.number k → ⊥
