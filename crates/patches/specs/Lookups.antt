-- What looking up a row answers.
use Rattle.std.specs.Prelude.{◌≡◌, ℕ, ◌+◌, ◌<◌, ◌≤◌}
use Rattle.search_sorted.specs.declared.search.SearchResult.{SearchResult}
use Rattle.search_sorted.specs.declared.search.SearchResult.TheVariants.{Found, NotFound}
use Rattle.search_sorted.specs.declared.search.SearchSortedSide.TheVariants.{Left}
use Rattle.search_sorted.specs.Naturals.{natural}
use Rattle.search_sorted.specs.Packed.{listed}
use Rattle.search_sorted.specs.Search.{Answers}
use Rattle.patches.specs.declared.column.Column.{Column}
use Rattle.patches.specs.Columns.{index, patches, patches_under}

-- a row's answer is that of the left search for offset + row among the stored indices; at or past the last row it is
-- NotFound of the number of patches
pub record LooksUp {V : Type 0} (c : Column V) (row : ℕ) (r : SearchResult) : Type 0 where
  pub among : row < c.rows → Answers natural (listed (index c) (patches c)) (c.offset + row) Left r
  pub past : c.rows ≤ row → r ≡ NotFound (patches c)

-- an answer counted from a later place
abbrev pub shifted : ℕ → SearchResult → SearchResult
shifted by (Found i) = Found (by + i)
shifted by (NotFound i) = NotFound (by + i)

-- the places of the indices from x up to y: as many indices are below x as the first place says, and below y as the end
pub record Places {V : Type 0} (c : Column V) (x y from to : ℕ) : Type 0 where
  pub from_is : from ≡ patches_under c x
  pub to_is : to ≡ patches_under c y
  pub order : from ≤ to
  pub within : to ≤ patches c
