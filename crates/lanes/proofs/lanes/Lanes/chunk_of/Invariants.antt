use Rattle.std.proofs.Common.{◌-◌, ◌<◌, ◌≤◌}
use Rattle.patches.specs.Chunks.{count_of_chunks}
use Rattle.lanes.specs.LaneMeaning.{begin_of_chunk}
use Rattle.lanes.proofs.lanes.Lanes.chunk_of.Given as goal

abbrev pub invariant-loop-high : goal.invariant-loop-high
invariant-loop-high g l =
    (l.first ≤ l.low) × (l.low < l.high) × (l.high ≤ count_of_chunks 0 l.self.places.rows)
    × (begin_of_chunk l.self l.low ≤ l.place) × (l.place < begin_of_chunk l.self l.high)

abbrev pub decreases-loop-high : goal.decreases-loop-high
decreases-loop-high g l = l.high - l.low
