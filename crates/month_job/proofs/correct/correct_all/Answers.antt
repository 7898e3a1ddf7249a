use Rattle.std.proofs.Common.{◌≡◌, ◌+◌, ◌≤◌, length, arith, rules}
use Rattle.patches.specs.Chunks.{first_row_of}
use Rattle.month_job.proofs.Chunked.{chunk_more}
use Rattle.month_job.proofs.correct.correct_all.Goals as goal

pub loop-chunk-preserved : goal.loop-chunk-preserved
loop-chunk-preserved c =
    let offset = c.args.column.now.offset in
    let rows = c.args.column.now.rows in
    let start_is : c.in_ok-part.part.start ≡ first_row_of c.loop-chunk.chunk offset rows = search rules in
    let end_is : c.in_ok-part.part.end ≡ first_row_of (c.loop-chunk.chunk + 1) offset rows = search rules in
    let order : c.in_ok-part.part.start ≤ c.in_ok-part.part.end = omega arith in
    let in-range : c.in_ok-part.part.end ≤ length c.loop-chunk.cells = search rules in
    chunk_more
    c.args.column.now
    c.args.cells.now
    c.loop-chunk.cells
    c.correct_chunk.new.cells
    c.in_ok-part.part.start
    c.in_ok-part.part.end
    (first_row_of c.loop-chunk.chunk offset rows)
    (first_row_of (c.loop-chunk.chunk + 1) offset rows)
    start_is
    end_is
    order
    in-range
    c.correct_chunk.auto.cells
    c.in_ok-correct_chunk.ensures.corrected
    c.loop-chunk.invariant
