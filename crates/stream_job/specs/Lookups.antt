-- Look-ups: their rows, and the amounts that are noted for them. Assumes nothing.
use Rattle.std.specs.Prelude.{◌≡◌, ℕ, ◌+◌, ◌-◌, ◌<◌, ◌≤◌, List, length, get_or, ℤ, pos, Some, Option, slice_index, slice_index_or, slice_set}
use Rattle.std.specs.List.Sorted.{IsPermutation}
use Rattle.stream_job.specs.declared.lookups.Wanted.{Wanted}

-- the wanted row is one of the n rows from first on
pub record InBlock (first n : ℕ) (w : Wanted) : Type 0 where
  pub after : first ≤ w.row
  pub before : w.row < first + n

-- the amounts, with that of a wanted row of the block at its place
abbrev pub noted : ℕ → List ℤ → List (Option ℤ) → Wanted → List (Option ℤ)
noted first cells amounts w = slice_set amounts w.place (Some (slice_index_or cells (w.row - first) (pos 0)))

-- the look-ups' rows, each with its place
pub record Asked (lookups : List ℕ) (wanted : List Wanted) : Type 0 where
  pub long : length wanted ≡ length lookups
  pub each : (k : ℕ) (d : Wanted) → k < length lookups → slice_index_or wanted k d ≡ record { row = slice_index lookups k; place = k }

-- the same in rising row
pub record InOrder (lookups : List ℕ) (wanted : List Wanted) : Type 0 where
  pub asked : List Wanted
  pub are : Asked lookups asked
  pub shuffled : IsPermutation asked wanted
  pub rising : (k : ℕ) (d : Wanted) → k + 1 < length wanted → (get_or wanted k d).row ≤ (get_or wanted (k + 1) d).row
