-- What a correction does to cells. Assumes nothing.
use Rattle.std.specs.Prelude.{◌≡◌, ℕ, ◌+◌, ◌-◌, ◌<◌, ◌≤◌, cond, List, length, ℤ, pos, Some, None, Option, nat_lt, slice_index_or}
use Rattle.std.specs.Option.{unwrap_or}
use Rattle.patches.specs.declared.column.Column.{Column}
use Rattle.patches.specs.Chunks.{count_of_chunks, first_row_of, end_row_of}
use Rattle.patches.specs.Columns.{patch_at, row_at}
use Rattle.month_job.specs.declared.correct.Answer.{Answer}
use Rattle.month_job.specs.declared.correct.Answer.TheVariants.{NoSuchRow, NotCorrected, Corrected}
use Rattle.month_job.specs.declared.correct.Correction.{Correction}

-- a row's amount after the correction: the patch, and where there is none the amount before
abbrev pub amount_after : Column ℤ → ℕ → ℤ → ℤ
amount_after column row before = unwrap_or (patch_at column row) before

-- new is old, whose first cell is the given row, with each cell corrected
abbrev pub CorrectedFrom : Column ℤ → ℕ → List ℤ → List ℤ → Type 0
CorrectedFrom column first old new =
    (k : ℕ) → k < length old → slice_index_or new k (pos 0) ≡ amount_after column (first + k) (slice_index_or old k (pos 0))

-- there is such a chunk, and it has n rows
abbrev pub Suited : Column ℤ → ℕ → ℕ → Type 0
Suited c chunk n =
    (chunk < count_of_chunks c.offset c.rows)
    × (n ≡ end_row_of chunk c.offset c.rows - first_row_of chunk c.offset c.rows)

-- new is old with each cell corrected
abbrev pub CorrectedAll : Column ℤ → List ℤ → List ℤ → Type 0
CorrectedAll column old new = (row : ℕ) → row < length old → slice_index_or new row (pos 0) ≡ amount_after column row (slice_index_or old row (pos 0))

-- the cells below a row are corrected, and those from it on are as they were
pub record CorrectedUpTo (column : Column ℤ) (bound : ℕ) (old new : List ℤ) : Type 0 where
  pub long : length new ≡ length old
  pub below : (row : ℕ) → row < bound → row < length old → slice_index_or new row (pos 0) ≡ amount_after column row (slice_index_or old row (pos 0))
  pub above : (row : ℕ) → bound ≤ row → slice_index_or new row (pos 0) ≡ slice_index_or old row (pos 0)

-- what a look-up answers where the row has this patch, or none, and this amount
abbrev pub told : Option ℤ → ℤ → Answer
told None before = NotCorrected before
told (Some after) before = Corrected before after

-- what a look-up of a row answers
abbrev pub answer : Column ℤ → List ℤ → ℕ → Answer
answer column cells row = cond (nat_lt row (length cells)) (told (patch_at column row) (slice_index_or cells row (pos 0))) NoSuchRow

-- the same by the row's amount before, which is none where there is no such row
abbrev pub answer_for : Column ℤ → Option ℤ → ℕ → Answer
answer_for column None row = NoSuchRow
answer_for column (Some before) row = told (patch_at column row) before

-- the correction is that of the patch at a place
pub record IsCorrection (column : Column ℤ) (cells : List ℤ) (place : ℕ) (c : Correction) : Type 0 where
  pub row_is : c.row ≡ row_at column place
  pub before_is : c.before ≡ slice_index_or cells c.row (pos 0)
  pub after_is : patch_at column c.row ≡ Some c.after
