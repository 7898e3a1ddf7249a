-- Narrowing a column to the rows from a up to b.
use Rattle.std.specs.Prelude.{◌≡◌, ℕ, ◌+◌, ◌-◌, ◌/◌, ◌<◌, true, false, cond, ◌⊎◌, List, [], ◌∷◌, Some, None, Ok, Err, Option, Result, ◌==◌}
use Rattle.patches.specs.declared.column.Column.{Column}
use Rattle.patches.specs.declared.refusal.Refusal.{Refusal}
use Rattle.patches.specs.declared.refusal.Reason.TheVariants.{RowRange}
use Rattle.patches.specs.declared.table.ChunkOffsets.{ChunkOffsets}
use Rattle.patches.specs.Refusals.{Rule, rule}
use Rattle.patches.specs.Chunks.{phase}
use Rattle.patches.specs.Tables.{has_table, count_of_entries, entry, within}
use Rattle.patches.specs.Columns.{patches, patches_under, index, patch_at}

-- the rules of a range of rows
abbrev pub row_rules : ℕ → ℕ → ℕ → List Rule
row_rules rows a b = rule RowRange ((b < a) ⊎ (rows < b)) ∷ []

-- the first chunk that is kept, and the chunk after the last: (p + a) / 1024 rounded down, (p + b) / 1024 rounded up
abbrev pub first_kept : ℕ → ℕ → ℕ
first_kept offset a = (phase offset + a) / 1024

abbrev pub end_kept : ℕ → ℕ → ℕ
end_kept offset b = (phase offset + b + 1023) / 1024

-- The chunk data u, kept of t: the entries from the first chunk kept up to the end; and within is such that entry 0 and
-- within come to what they came to before, and the patches dropped in front.
pub record KeptTable (t u : Option ChunkOffsets) (offset a b dropped : ℕ) : Type 0 where
  pub count : count_of_entries u ≡ end_kept offset b - first_kept offset a
  pub entries : (c : ℕ) → c < count_of_entries u → entry u c ≡ entry t (first_kept offset a + c)
  pub base : entry u 0 + within u ≡ entry t 0 + within t + dropped

-- chunk data are kept where there are any
abbrev pub KeepsTable : Option ChunkOffsets → Option ChunkOffsets → ℕ → ℕ → ℕ → ℕ → Type 0
KeepsTable t u offset a b dropped = (has_table u ≡ has_table t) × (has_table u ≡ true → KeptTable t u offset a b dropped)

-- the number of patches that remain, or none
abbrev pub remaining : ℕ → Option ℕ
remaining n = cond (n == 0) None (Some n)

-- d is what narrowing c to the rows from a up to b leaves
pub record NarrowedTo {V : Type 0} (c d : Column V) (a b : ℕ) : Type 0 where
  -- how many patches lie before row a
  pub dropped : ℕ
  pub dropped_is : dropped ≡ patches_under c (c.offset + a)
  pub rows : d.rows ≡ b - a
  pub offset : d.offset ≡ c.offset + a
  pub patched : (k : ℕ) → k < b - a → patch_at d k ≡ patch_at c (a + k)
  pub count : patches d ≡ patches_under c (c.offset + b) - dropped
  pub indices : (i : ℕ) → i < patches d → index d i ≡ index c (dropped + i)
  pub no_table : patches d ≡ 0 → has_table d.chunks ≡ false
  pub some_table : 0 < patches d → has_table d.chunks ≡ has_table c.chunks
  pub table : has_table d.chunks ≡ true → KeptTable c.chunks d.chunks c.offset a b dropped

-- narrowing answers the number of patches that remain, or none; a refusal leaves the column as it was
abbrev pub Narrowed : {V : Type 0} → Column V → Column V → ℕ → ℕ → Result (Option ℕ) Refusal → Type 0
Narrowed c d a b (Ok left) = NarrowedTo c d a b × (left ≡ remaining (patches d))
Narrowed c d a b (Err f) = d ≡ c
