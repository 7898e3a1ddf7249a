use Rattle.patches.specs.Chunks.{first_row_of}
use Rattle.month_job.specs.Corrected.{CorrectedUpTo}
use Rattle.month_job.proofs.correct.correct_all.Given as goal

abbrev pub invariant-loop-chunk : goal.invariant-loop-chunk
invariant-loop-chunk l = CorrectedUpTo l.column (first_row_of l.chunk l.column.offset l.column.rows) l.initial.cells l.cells
