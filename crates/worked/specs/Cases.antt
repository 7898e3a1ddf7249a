-- Worked cases: a column P, what looking up its rows answers, what narrowing leaves of it, and the rows of chunks.
-- Each says what the promise of a call leaves no choice about.
use Rattle.std.specs.Prelude.{◌≡◌, ℕ, true, List, [], ◌∷◌, Some, None, Option}
use Rattle.search_sorted.specs.declared.search.SearchResult.{SearchResult}
use Rattle.search_sorted.specs.declared.search.SearchResult.TheVariants.{Found, NotFound}
use Rattle.search_sorted.specs.Packed.{listed}
use Rattle.patches.specs.declared.column.Column.{Column}
use Rattle.patches.specs.declared.table.ChunkOffsets.{ChunkOffsets}
use Rattle.patches.specs.declared.corrections.ChunkTable.{ChunkTable}
use Rattle.patches.specs.declared.corrections.Corrections.{Corrections}
use Rattle.patches.specs.Chunks.{count_of_chunks, first_row_of, end_row_of}
use Rattle.patches.specs.Columns.{patches, row_at}
use Rattle.patches.specs.Loads.{Holds}
use Rattle.patches.specs.Lookups.{LooksUp}
use Rattle.patches.specs.Narrows.{NarrowedTo, remaining}
use Rattle.patches.specs.Tables.{has_table, count_of_entries, entry, within}

-- P's chunk data in a file: entries 0, 2, 3 of one byte each, within 0
abbrev pub TableP : Option ChunkTable → Type 0
TableP None = ⊥
TableP (Some t) = (t.width ≡ 1) × (t.entries.now ≡ 0 ∷ 2 ∷ 3 ∷ []) × (t.within ≡ 0)

-- P in a file: the indices 3, 1023, 1024, 2050 of two bytes each, with the values 10, 20, 30, 40, among 3000 rows
pub record FileP (f : Corrections ℕ) : Type 0 where
  pub width : f.width ≡ 2
  pub indices : f.indices.now ≡ 3 ∷ 0 ∷ 255 ∷ 3 ∷ 0 ∷ 4 ∷ 2 ∷ 8 ∷ []
  pub values : f.values.now ≡ 10 ∷ 20 ∷ 30 ∷ 40 ∷ []
  pub rows : f.rows ≡ 3000
  pub offset : f.offset ≡ 0
  pub chunks : TableP f.chunks

-- a column that holds P
pub record HoldsP (c : Column ℕ) : Type 0 where
  pub file : Corrections ℕ
  pub given : FileP file
  pub holds : Holds c file

-- chunk data with these entries and this within
pub record TableIs (t : Option ChunkOffsets) (entries : List ℕ) (before : ℕ) : Type 0 where
  pub there : has_table t ≡ true
  pub entries_are : listed (entry t) (count_of_entries t) ≡ entries
  pub within_is : within t ≡ before

-- a column with this offset, so many rows, these patched rows, and chunk data with these entries and this within
pub record ColumnIs (c : Column ℕ) (offset rows : ℕ) (patched entries : List ℕ) (before : ℕ) : Type 0 where
  pub offset_is : c.offset ≡ offset
  pub rows_are : c.rows ≡ rows
  pub patched_are : listed (row_at c) (patches c) ≡ patched
  pub table_is : TableIs c.chunks entries before

-- looking up a row answers this and nothing else
abbrev pub Answered : Column ℕ → ℕ → SearchResult → Type 0
Answered c row answer = (r : SearchResult) → LooksUp c row r → r ≡ answer

-- a chunk's rows go from one row up to another
abbrev pub ChunkRows : ℕ → ℕ → ℕ → ℕ → ℕ → Type 0
ChunkRows chunk offset rows from to = (first_row_of chunk offset rows ≡ from) × (end_row_of chunk offset rows ≡ to)

-- the worked cases
pub record WorkedCases : Type 0 where
  -- in P, row 1023 has the second patch
  pub found : (c : Column ℕ) → HoldsP c → Answered c 1023 (Found 1)
  -- row 1025 has none, and three lie before it
  pub missed : (c : Column ℕ) → HoldsP c → Answered c 1025 (NotFound 3)
  -- row 3000 is past the last row
  pub past : (c : Column ℕ) → HoldsP c → Answered c 3000 (NotFound 4)
  -- P narrowed to its rows 1000 to 2051, and a lookup in what is left
  pub narrowed : (c d : Column ℕ) → HoldsP c → NarrowedTo c d 1000 2051 → ColumnIs d 1000 1051 (23 ∷ 24 ∷ 1050 ∷ []) (0 ∷ 2 ∷ 3 ∷ []) 1 × Answered d 24 (Found 1)
  -- what is left, narrowed once more to its rows 24 to 1051
  pub narrowed_again : (c d e : Column ℕ) → HoldsP c → NarrowedTo c d 1000 2051 → NarrowedTo d e 24 1051 → ColumnIs e 1024 1027 (0 ∷ 1026 ∷ []) (2 ∷ 3 ∷ []) 0
  -- P narrowed to its rows 1025 to 2050, among which no patch remains
  pub emptied : (c d : Column ℕ) → HoldsP c → NarrowedTo c d 1025 2050 → (d.rows ≡ 1025) × (remaining (patches d) ≡ None)
  -- 1051 rows at offset 1000 touch three chunks
  pub ranges : (count_of_chunks 1000 1051 ≡ 3) × ChunkRows 0 1000 1051 0 24 × ChunkRows 1 1000 1051 24 1048 × ChunkRows 2 1000 1051 1048 1051
