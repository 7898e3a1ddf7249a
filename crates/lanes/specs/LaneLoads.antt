-- What loading lane tables answers, and what the lanes then hold.
use Rattle.std.specs.Prelude.{◌≡◌, ℕ, ◌+◌, ◌<◌, ◌≤◌, List, length, Some, None, Option}
use Rattle.lanes.specs.declared.lanes.Lanes.{Lanes}
use Rattle.lanes.specs.declared.lanes.LaneTables.{LaneTables}
use Rattle.lanes.specs.LaneRules.{begin_of, BreaksIn}

-- the first number of which something holds, or none where it holds of none
abbrev pub First : (ℕ → Type 0) → Option ℕ → Type 0
First Wrong None = (i : ℕ) → Wrong i → ⊥
First Wrong (Some i) = Wrong i × ((k : ℕ) → k < i → Wrong k → ⊥)

-- the entry at place j is one of the lane and breaks a rule
abbrev pub WrongIn : List ℕ → List ℕ → ℕ → ℕ → ℕ → ℕ → Type 0
WrongIn offsets entries rows lanes lane j =
    (begin_of offsets entries lane ≤ j) × (j < begin_of offsets entries (lane + 1)) × BreaksIn offsets entries rows lanes lane j

-- lanes with no rows and no patches
pub record Empty {V : Type 0} (l : Lanes V) : Type 0 where
  pub rows : l.places.rows ≡ 0
  pub lanes : l.places.lanes.number ≡ 1
  pub no_patches : length l.places.entries.now ≡ 0

-- the lanes hold exactly the tables
pub record Holds {V : Type 0} (l : Lanes V) (t : LaneTables V) : Type 0 where
  pub rows : l.places.rows ≡ t.rows
  pub lanes : l.places.lanes.number ≡ t.lanes
  pub offsets : l.places.offsets.now ≡ t.offsets.now
  pub entries : l.places.entries.now ≡ t.entries.now
  pub values : l.values.now ≡ t.values.now
