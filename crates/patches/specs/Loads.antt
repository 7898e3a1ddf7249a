-- What loading asks of a file, and what the column then holds.
use Rattle.std.specs.Prelude.{◌≡◌, ℕ, ◌+◌, ◌-◌, ◌*◌, ◌/◌, ◌%◌, ◌<◌, ◌≤◌, ◌⊎◌, List, [], ◌∷◌, ◌++◌, length, Some, None, Ok, Err, Option, Result, ◌≢◌}
use Rattle.search_sorted.specs.declared.width.Width.{Width}
use Rattle.search_sorted.specs.declared.packed.Packed.{Packed}
use Rattle.search_sorted.specs.Packed.{size, number_at}
use Rattle.patches.specs.declared.column.Column.{Column}
use Rattle.patches.specs.declared.span.Span.{Span}
use Rattle.patches.specs.declared.table.ChunkOffsets.{ChunkOffsets}
use Rattle.patches.specs.declared.refusal.Refusal.{Refusal}
use Rattle.patches.specs.declared.corrections.ChunkTable.{ChunkTable}
use Rattle.patches.specs.declared.corrections.Corrections.{Corrections}
use Rattle.patches.specs.declared.refusal.Reason.TheVariants.{IndexWidth, IndexBytes, NoIndex, ValueCount, RowLimit, IndexOrder, IndexRange, ChunkData}
use Rattle.patches.specs.Refusals.{Rule, rule}
use Rattle.patches.specs.Chunks.{limit, phase, count_of_chunks, chunk_start}
use Rattle.patches.specs.Indices.{count_under, Inside}
use Rattle.patches.specs.Tables.{Fits}
use Rattle.search_sorted.specs.Numbers.{count, number}

-- no number has so many bytes
abbrev pub NoWidth : ℕ → Type 0
NoWidth w = (width : Width) → size width ≢ w

-- the width, the byte count, within or entry 0 is wrong
abbrev pub BadTable : ChunkTable → ℕ → ℕ → Type 0
BadTable t offset rows =
    NoWidth t.width
    ⊎ ((length t.entries.now ≢ t.width * count_of_chunks offset rows)
    ⊎ ((phase offset < t.within)
    ⊎ (limit < number_at t.entries.now t.width 0)))

-- the chunk data of a table that is right as a whole, or none of one that is not
abbrev pub WholeTable : ChunkTable → ℕ → ℕ → Option ChunkOffsets → Type 0
WholeTable t offset rows None = BadTable t offset rows
WholeTable t offset rows (Some u) = (BadTable t offset rows → ⊥) × (size u.entries.width ≡ t.width) × (u.entries.bytes.now ≡ t.entries.now) × (u.within ≡ t.within)

-- the five rules on widths, counts and rows, over the index bytes and the number of values
abbrev pub shape_rules : ℕ → List ℕ → ℕ → ℕ → ℕ → List Rule
shape_rules w bytes values rows offset =
    rule IndexWidth (NoWidth w)
    ∷ rule IndexBytes (length bytes % w ≢ 0)
    ∷ rule NoIndex (length bytes ≡ 0)
    ∷ rule ValueCount (values ≢ length bytes / w)
    ∷ rule RowLimit (limit < offset + rows)
    ∷ []

-- numbers and rows that are those of a file
pub record Shaped {V : Type 0} (f : Corrections V) (p : Packed) (s : Span) : Type 0 where
  pub width : size p.width ≡ f.width
  pub bytes : p.bytes.now ≡ f.indices.now
  pub offset : s.offset ≡ f.offset
  pub rows : s.rows ≡ f.rows

module _ (index : ℕ → ℕ) (n : ℕ) where
  -- an index that is not above the one before it
  abbrev pub order_rule : Rule
  order_rule = record { reason = IndexOrder; broken = λ place. (0 < place) × (place < n) × (index place ≤ index (place - 1)) }

  -- the first index below the offset, or else the last at or past offset + rows
  abbrev pub range_rule : ℕ → ℕ → Rule
  range_rule offset rows = record {
    reason = IndexRange;
    broken = λ place.
        ((place ≡ 0) × (index 0 < offset))
        ⊎ ((offset ≤ index 0) × (place + 1 ≡ n) × (offset + rows ≤ index place));
  }

  -- a chunk's entry is the base and the number of indices below the chunk's start
  abbrev pub RightEntry : (ℕ → ℕ) → ℕ → ℕ → ℕ → Type 0
  RightEntry entry base offset chunk = entry chunk ≡ base + count_under index n (chunk_start offset chunk)

  -- the first chunk, from chunk 1 on, whose entry is wrong
  pub record FirstWrong (entry : ℕ → ℕ) (base offset chunks place : ℕ) : Type 0 where
    pub later : 1 ≤ place
    pub below : place < chunks
    pub wrong : RightEntry entry base offset place → ⊥
    pub before : (c : ℕ) → 1 ≤ c → c < place → RightEntry entry base offset c

  -- that chunk, or none where every entry from chunk 1 on is right
  abbrev pub WrongFrom : (ℕ → ℕ) → ℕ → ℕ → ℕ → Option ℕ → Type 0
  WrongFrom entry base offset chunks None = (c : ℕ) → 1 ≤ c → c < chunks → RightEntry entry base offset c
  WrongFrom entry base offset chunks (Some place) = FirstWrong entry base offset chunks place

  -- chunk data: at place 0 what concerns the table as a whole, else the first chunk whose entry is not entry 0 and
  -- within and the number of indices below its start
  abbrev pub WrongChunk : Option ChunkTable → ℕ → ℕ → ℕ → Type 0
  WrongChunk None offset rows place = ⊥
  WrongChunk (Some t) offset rows place =
      ((place ≡ 0) × BadTable t offset rows)
      ⊎ ((BadTable t offset rows → ⊥) × FirstWrong (number_at t.entries.now t.width) (number_at t.entries.now t.width 0 + t.within) offset (count_of_chunks offset rows) place)

  abbrev pub table_rule : Option ChunkTable → ℕ → ℕ → Rule
  table_rule table offset rows = record { reason = ChunkData; broken = WrongChunk table offset rows }

-- the rules on n indices and their chunk data
abbrev pub index_rules : (ℕ → ℕ) → ℕ → Option ChunkTable → ℕ → ℕ → List Rule
index_rules index n table offset rows = order_rule index n ∷ range_rule index n offset rows ∷ table_rule index n table offset rows ∷ []

-- the rules of loading, in rising order of number
abbrev pub load_rules : {V : Type 0} → Corrections V → List Rule
load_rules f =
    shape_rules f.width f.indices.now (length f.values.now) f.rows f.offset
    ++ index_rules (number_at f.indices.now f.width) (length f.indices.now / f.width) f.chunks f.offset f.rows

-- a column's chunk data are those of a file: the same entries and the same within, or none in both
abbrev pub SameTable : Option ChunkOffsets → Option ChunkTable → Type 0
SameTable None None = Unit {0}
SameTable None (Some t) = ⊥
SameTable (Some a) None = ⊥
SameTable (Some a) (Some t) = (size a.entries.width ≡ t.width) × (a.entries.bytes.now ≡ t.entries.now) × (a.within ≡ t.within)

-- the indices p are the numbers q, lie among the rows, and fit the chunk data, which are those of a file
pub record Sound (p q : Packed) (t : Option ChunkOffsets) (table : Option ChunkTable) (offset rows : ℕ) : Type 0 where
  pub numbers : p ≡ q
  pub inside : Inside (number p) (count p) offset rows
  pub same : SameTable t table
  pub fits : Fits (number p) (count p) t offset rows

-- the column holds what the file gives
pub record Holds {V : Type 0} (c : Column V) (f : Corrections V) : Type 0 where
  pub rows : c.rows ≡ f.rows
  pub offset : c.offset ≡ f.offset
  pub width : size c.indices.numbers.width ≡ f.width
  pub indices : c.indices.numbers.bytes.now ≡ f.indices.now
  pub values : c.values.now ≡ f.values.now
  pub chunks : SameTable c.chunks f.chunks

-- after loading the column holds the file, and after a refusal it is as it was
abbrev pub Loaded : {V : Type 0} → Column V → Column V → Corrections V → Result Unit Refusal → Type 0
Loaded before after f (Ok _) = Holds after f
Loaded before after f (Err _) = after ≡ before
