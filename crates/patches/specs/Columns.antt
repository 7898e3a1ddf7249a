-- A column by its patches.
use Rattle.std.specs.Prelude.{◌≡◌, ℕ, ◌+◌, ◌-◌, ◌≤◌, false, Option}
use Rattle.std.proofs.Common.{arith}
use Rattle.search_sorted.specs.Numbers.{count, number}
use Rattle.patches.specs.declared.column.Column.{Column}
use Rattle.patches.specs.Indices.{count_under, seek}
use Rattle.patches.specs.SeekLaws.{seek_past}
use Rattle.patches.specs.Assignments.{Assignment}
use Rattle.patches.specs.Chunks.{limit}
use Rattle.patches.specs.Tables.{has_table}

-- how many patches the column has
abbrev pub patches : {V : Type 0} → Column V → ℕ
patches c = count c.indices.numbers

-- the stored index at a place
abbrev pub index : {V : Type 0} → Column V → ℕ → ℕ
index c place = number c.indices.numbers place

-- how many patches have a stored index below x
abbrev pub patches_under : {V : Type 0} → Column V → ℕ → ℕ
patches_under c x = count_under (index c) (patches c) x

-- the row of the patch at a place
abbrev pub row_at : {V : Type 0} → Column V → ℕ → ℕ
row_at c place = index c place - c.offset

-- the patch of a row: the value beside the index that is offset + row
abbrev pub patch_at : {V : Type 0} → Column V → ℕ → Option V
patch_at c row = seek (index c) (c.offset + row) 0 c.values.now

-- a column of so many rows, with offset 0, no patches and no chunk data
pub record Cleared {V : Type 0} (c : Column V) (rows : ℕ) : Type 0 where
  pub rows_are : c.rows ≡ rows
  pub offset_is : c.offset ≡ 0
  pub no_patches : patches c ≡ 0
  pub no_chunks : has_table c.chunks ≡ false

-- a column has no more rows than the limit
pub column_few : {V : Type 0} (c : Column V) → c.rows ≤ limit
column_few c = omega (arith, c.short)

-- what a column means as a patch set: its rows, each with its patch
abbrev pub column_meaning : {V : Type 0} → Column V → Assignment V
column_meaning c = record {
  rows = c.rows;
  patch = patch_at c;
  few = column_few c;
  past = λ row h. seek_past (index c) c.values.now (patches c) c.offset c.rows row c.paired c.inside h;
}
