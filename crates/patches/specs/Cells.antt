-- A chunk's decoded cells, and what correcting them asks and does.
use Rattle.std.specs.Prelude.{◌≡◌, ℕ, ◌+◌, ◌-◌, ◌<◌, ◌≤◌, false, List, [], ◌∷◌, length, Some, None, Ok, Err, Option, Result, ◌≢◌, slice_index_or}
use Rattle.std.specs.Option.{unwrap_or}
use Rattle.search_sorted.specs.Numbers.{count, number, got}
use Rattle.patches.specs.declared.column.Column.{Column}
use Rattle.patches.specs.declared.table.ChunkOffsets.{ChunkOffsets}
use Rattle.patches.specs.declared.refusal.Refusal.{Refusal}
use Rattle.patches.specs.declared.refusal.Reason.TheVariants.{NoChunkData, CellCount}
use Rattle.patches.specs.Refusals.{Rule, rule}
use Rattle.patches.specs.Chunks.{count_of_chunks, chunk_rule, first_row_of, end_row_of}
use Rattle.patches.specs.Tables.{has_table}
use Rattle.patches.specs.Columns.{patch_at}

-- within of chunk data, or none without them
abbrev pub within_of : Option ChunkOffsets → Option ℕ
within_of None = None
within_of (Some t) = Some t.within

-- the entry of a chunk, or none past the last or without chunk data
abbrev pub entry_of : Option ChunkOffsets → ℕ → Option ℕ
entry_of None chunk = None
entry_of (Some t) chunk = got (number t.entries) (count t.entries) chunk

-- the rules of correcting a chunk's n cells
abbrev pub cell_rules : {V : Type 0} → Column V → ℕ → ℕ → List Rule
cell_rules c chunk n =
    rule NoChunkData (has_table c.chunks ≡ false)
    ∷ chunk_rule chunk (count_of_chunks c.offset c.rows)
    ∷ rule CellCount (n ≢ end_row_of chunk c.offset c.rows - first_row_of chunk c.offset c.rows)
    ∷ []

-- cells of the rows from the first on, corrected: each is the patch of its row, or as before where the row has none
abbrev pub Corrected : {V : Type 0} → (ℕ → Option V) → ℕ → List V → List V → Type 0
Corrected {V} patch first before after = (k : ℕ) (d : V) → k < length before → slice_index_or after k d ≡ unwrap_or (patch (first + k)) (slice_index_or before k d)

-- after correcting a chunk its cells are corrected, and after a refusal they are as they were
abbrev pub Patched : {V : Type 0} → Column V → ℕ → List V → List V → Result Unit Refusal → Type 0
Patched c chunk before after (Ok _) = Corrected (patch_at c) (first_row_of chunk c.offset c.rows) before after
Patched c chunk before after (Err _) = after ≡ before

-- the values from one place up to another, each written to the cell of its index, where the first cell has the index
-- base: that cell holds the value, and a cell with no such index is as it was
pub record Written {V : Type 0} (index : ℕ → ℕ) (base from to : ℕ) (values before after : List V) : Type 0 where
  pub holds : (i : ℕ) (d : V) → from ≤ i → i < to → slice_index_or after (index i - base) d ≡ slice_index_or values i d
  pub keeps : (k : ℕ) (d : V) → ((i : ℕ) → from ≤ i → i < to → index i ≢ base + k) → slice_index_or after k d ≡ slice_index_or before k d

-- the indices from one place up to another are those of n cells, of which the first has the index base
abbrev pub Among : (ℕ → ℕ) → ℕ → ℕ → ℕ → ℕ → Type 0
Among index base n from to = (i : ℕ) → from ≤ i → i < to → (base ≤ index i) × (index i < base + n)
