-- A worked column Q, and its tables in two lanes. Each case says what the promise of a call leaves no choice about.
use Rattle.std.specs.Prelude.{◌≡◌, ℕ, List, [], ◌∷◌, None}
use Rattle.patches.specs.declared.column.Column.{Column}
use Rattle.patches.specs.declared.corrections.Corrections.{Corrections}
use Rattle.patches.specs.Columns.{column_meaning}
use Rattle.patches.specs.Loads.{Holds}
use Rattle.lanes.specs.LaneSets.{TablesOf}

-- Q in a file: the indices 2, 5, 6 of one byte each, with the values 7, 8, 9, among 8 rows, and no chunk data
pub record FileQ (f : Corrections ℕ) : Type 0 where
  pub width : f.width ≡ 1
  pub indices : f.indices.now ≡ 2 ∷ 5 ∷ 6 ∷ []
  pub values : f.values.now ≡ 7 ∷ 8 ∷ 9 ∷ []
  pub rows : f.rows ≡ 8
  pub offset : f.offset ≡ 0
  pub chunks : f.chunks ≡ None

-- a column that holds Q
pub record HoldsQ (c : Column ℕ) : Type 0 where
  pub file : Corrections ℕ
  pub given : FileQ file
  pub holds : Holds c file

-- what the promises of the calls come to
pub record WorkedLaneCases : Type 0 where
  -- in two lanes, Q's tables are these: rows 2 and 6 in the first lane and row 5 in the second
  pub laned : (c : Column ℕ) → HoldsQ c → TablesOf (column_meaning c) 2 (0 ∷ 2 ∷ 3 ∷ []) (2 ∷ 6 ∷ 5 ∷ []) (7 ∷ 9 ∷ 8 ∷ [])
  -- and Q has no other tables in two lanes
  pub laned_only : (c : Column ℕ) → HoldsQ c → (o e : List ℕ) (v : List ℕ) → TablesOf (column_meaning c) 2 o e v → (o ≡ 0 ∷ 2 ∷ 3 ∷ []) × (e ≡ 2 ∷ 6 ∷ 5 ∷ []) × (v ≡ 7 ∷ 9 ∷ 8 ∷ [])
