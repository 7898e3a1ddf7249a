-- The steps of a run, block by block, what came of them, and the corrected cells of a block. Assumes nothing.
use Rattle.std.specs.Prelude.{◌≡◌, ℕ, ◌+◌, ◌-◌, ◌*◌, ◌<◌, ◌≤◌, min, true, cond, List, length, get_or, ℤ, pos, is_some, Some, None, Option, Ok, Err, nat_lt, slice_index_or}
use Rattle.patches.specs.declared.refusal.Reason.TheVariants.{RowLimit}
use Rattle.patches.specs.Assignments.{Patch, NoneFrom}
use Rattle.patches.specs.Chunks.{limit, count_of_chunks, first_row_of, end_row_of}
use Rattle.runs.specs.declared.attempts.Attempt.TheVariants.{Step}
use Rattle.runs.specs.declared.attempts.Entry.{Entry}
use Rattle.runs.specs.declared.attempts.AttemptError.{AttemptError}
use Rattle.runs.specs.declared.attempts.AttemptError.TheVariants.{NotMade}
use Rattle.month_job.specs.declared.correct.Correction.{Correction}
use Rattle.stream_job.specs.declared.work.PlanError.{PlanError}
use Rattle.stream_job.specs.declared.work.PlanError.TheVariants.{Refused, Memory}

-- the step through a chunk, before it is tried: with the chunk's number of cells, and all the rows
abbrev pub step_entry : ℕ → ℕ → ℕ → Entry
step_entry chunk phase rows = record { attempt = Step (end_row_of chunk phase rows - first_row_of chunk phase rows) rows; outcome = Err NotMade }

-- how many chunks a block has: 64, or those that are left
abbrev pub block_chunks : ℕ → ℕ → ℕ → ℕ
block_chunks block phase rows = min 64 (count_of_chunks phase rows - 64 * block)

-- a block is not planned for want of memory, or since there are too many rows
abbrev pub Unplanned : ℕ → ℕ → PlanError → Type 0
Unplanned phase rows (Refused refusal) = (refusal.reason ≡ RowLimit) × (limit < phase + rows)
Unplanned phase rows Memory = Unit {0}

-- how many offsets the lane tables take: one for each lane of each chunk, and one more; none where there are too many
-- lanes or rows
abbrev pub room_of_offsets : ℕ → ℕ → Option ℕ
room_of_offsets lanes rows = cond (nat_lt 1024 lanes) None (cond (nat_lt limit rows) None (Some (count_of_chunks 0 rows * lanes + 1)))

-- the first n attempts were accepted
abbrev pub AllAccepted : ℕ → List Entry → Type 0
AllAccepted n entries = (k : ℕ) (d : Entry) → k < n → (get_or entries k d).outcome ≡ Ok tt

-- the first attempt that was not accepted, and what came of it
pub record FirstRefused (entries : List Entry) (e : AttemptError) : Type 0 where
  pub place : ℕ
  pub inside : place < length entries
  pub earlier : AllAccepted place entries
  pub here : (d : Entry) → (get_or entries place d).outcome ≡ Err e

-- the first corrected cell at or after a row, in a block whose first cell is the row first
pub record CorrectionAt {V : Type 0} (patch : ℕ → Patch V) (row first : ℕ) (before after : List ℤ) (c : Correction) : Type 0 where
  pub not_earlier : row ≤ c.row
  pub patched : is_some (patch c.row) ≡ true
  pub none_between : NoneFrom patch row c.row
  pub in_block : first ≤ c.row
  pub not_past : c.row < first + length before
  pub before_is : c.before ≡ slice_index_or before (c.row - first) (pos 0)
  pub after_is : c.after ≡ slice_index_or after (c.row - first) (pos 0)

-- no row of the block at or after this one is patched
abbrev pub NoCorrection : {V : Type 0} → (ℕ → Patch V) → ℕ → ℕ → List ℤ → List ℤ → Type 0
NoCorrection patch row first before after =
    first ≤ row → length after ≡ length before → NoneFrom patch row (first + length before)
