-- Chunk data that a column may have: an entry for each chunk, and within.
use Rattle.std.specs.Prelude.{◌≡◌, ℕ, ◌+◌, ◌<◌, ◌≤◌, Bool, true, false, Some, None, Option}
use Rattle.search_sorted.specs.Numbers.{count, number}
use Rattle.patches.specs.declared.table.ChunkOffsets.{ChunkOffsets}
use Rattle.patches.specs.Chunks.{limit, phase, count_of_chunks, chunk_start}
use Rattle.patches.specs.Indices.{count_under}

-- whether there are chunk data
abbrev pub has_table : Option ChunkOffsets → Bool
has_table None = false
has_table (Some t) = true

-- how many entries there are
abbrev pub count_of_entries : Option ChunkOffsets → ℕ
count_of_entries None = 0
count_of_entries (Some t) = count t.entries

-- the entry of a chunk
abbrev pub entry : Option ChunkOffsets → ℕ → ℕ
entry None chunk = 0
entry (Some t) chunk = number t.entries chunk

-- within, the number of patches of entry 0's chunk that lie before the column's first
abbrev pub within : Option ChunkOffsets → ℕ
within None = 0
within (Some t) = t.within

-- chunk data, if there are any, fit n indices: an entry for each chunk, of which each from chunk 1 on is entry 0 and
-- within and the number of indices below the chunk's start
pub record Fits (index : ℕ → ℕ) (n : ℕ) (t : Option ChunkOffsets) (offset rows : ℕ) : Type 0 where
  pub tabled : has_table t ≡ true → count_of_entries t ≡ count_of_chunks offset rows
  pub near : within t ≤ phase offset
  pub base : entry t 0 ≤ limit
  pub counted : (c : ℕ) → 1 ≤ c → c < count_of_entries t → entry t c ≡ entry t 0 + within t + count_under index n (chunk_start offset c)
