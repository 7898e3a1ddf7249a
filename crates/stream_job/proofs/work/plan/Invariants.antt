use Rattle.std.proofs.Common.{◌≡◌, ℕ, ◌+◌, ◌<◌, get_or, vec_items, vec_len}
use Rattle.patches.specs.Chunks.{first_row_of}
use Rattle.runs.specs.declared.attempts.Entry.{Entry}
use Rattle.stream_job.specs.Works.{step_entry}
use Rattle.stream_job.proofs.work.plan.Given as goal

abbrev pub invariant-loop-chunk : goal.invariant-loop-chunk
invariant-loop-chunk l =
    (vec_len l.entries + l.start ≡ l.chunk)
    × ((k : ℕ) (d : Entry) → k < vec_len l.entries → get_or (vec_items l.entries) k d ≡ step_entry (l.start + k) l.phase l.rows)
    × (l.cells + first_row_of l.start l.phase l.rows ≡ first_row_of l.chunk l.phase l.rows)
