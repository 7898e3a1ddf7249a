-- A correction run: what opening, a step and closing ask, and what they do.
use Rattle.std.specs.Prelude.{◌≡◌, ℕ, ◌+◌, ◌-◌, ◌%◌, ◌<◌, List, [], ◌∷◌, length, Ok, Err, Result, ◌≢◌}
use Rattle.patches.specs.declared.refusal.Refusal.{Refusal}
use Rattle.patches.specs.declared.refusal.Reason.TheVariants.{RowLimit, CellCount, SetRows, ChunksLeft}
use Rattle.patches.specs.declared.refusal.Part.TheVariants.{Run as RunPart}
use Rattle.patches.specs.Refusals.{Rule, rule, AllKept, NamesFirst}
use Rattle.patches.specs.Chunks.{limit, count_of_chunks, chunk_rule, first_row_of, end_row_of}
use Rattle.patches.specs.Cells.{Corrected}
use Rattle.patches.specs.Assignments.{Patch, patches_below}
use Rattle.runs.specs.declared.run.OpenRun.{OpenRun}
use Rattle.runs.specs.declared.run.ClosedRun.{ClosedRun}
use Rattle.runs.specs.declared.run.steps.Unfinished.{Unfinished}

-- the rules of opening a run
abbrev pub open_rules : ℕ → List Rule
open_rules rows = rule RowLimit (limit < rows) ∷ []

-- the rules of a step that is handed n cells and a set of so many rows, at a chunk of a run for rows in a phase: there is
-- such a chunk (place: its number), the cells are as many as its rows, and the set has the run's rows
abbrev pub step_rules : ℕ → ℕ → ℕ → ℕ → ℕ → List Rule
step_rules rows phase chunk n rows_of_set =
    chunk_rule chunk (count_of_chunks phase rows)
    ∷ rule CellCount (n ≢ end_row_of chunk phase rows - first_row_of chunk phase rows)
    ∷ rule SetRows (rows_of_set ≢ rows)
    ∷ []

-- the rule of closing: no chunk is left
abbrev pub close_rules : ℕ → ℕ → ℕ → List Rule
close_rules rows phase chunk = rule ChunksLeft (chunk < count_of_chunks phase rows) ∷ []

-- cells of the rows from a first one on, before and after: as many, each patched row's cell its value, and any other
-- cell as it was
pub record Replaced {V : Type 0} (patch : ℕ → Patch V) (first : ℕ) (before after : List V) : Type 0 where
  pub as_long : length after ≡ length before
  pub cells : Corrected patch first before after

-- a run that was just opened
pub record Begun (rows phase : ℕ) (run : OpenRun) : Type 0 where
  pub rows_are : run.rows ≡ rows
  pub phase_is : run.phase ≡ phase % 1024
  pub first_chunk : run.chunk ≡ 0
  pub no_count : run.count ≡ 0

-- what an accepted step does: it replaces the chunk's patched cells, adds their number to the count and goes on
pub record Advanced {V : Type 0} (patch : ℕ → Patch V) (run next : OpenRun) (before after : List V) : Type 0 where
  pub rows_stay : next.rows ≡ run.rows
  pub phase_stays : next.phase ≡ run.phase
  pub next_chunk : next.chunk ≡ run.chunk + 1
  pub counted : next.count + patches_below patch (first_row_of run.chunk run.phase run.rows) ≡ run.count + patches_below patch (end_row_of run.chunk run.phase run.rows)
  pub replaced : Replaced patch (first_row_of run.chunk run.phase run.rows) before after

-- a refused step leaves the run and the cells as they were
abbrev pub Stepped : {V : Type 0} → (ℕ → Patch V) → OpenRun → OpenRun → List V → List V → Result Unit Refusal → Type 0
Stepped patch run next before after (Ok _) = Advanced patch run next before after
Stepped patch run next before after (Err _) = (next ≡ run) × (after ≡ before)

-- closing answers the run's rows and its count; refused, it hands the run back as it was
abbrev pub Finished : OpenRun → Result ClosedRun Unfinished → Type 0
Finished run (Ok closed) = AllKept (close_rules run.rows run.phase run.chunk) × (closed.rows ≡ run.rows) × (closed.count ≡ run.count)
Finished run (Err back) = NamesFirst RunPart (close_rules run.rows run.phase run.chunk) back.refusal × (back.run ≡ run)
