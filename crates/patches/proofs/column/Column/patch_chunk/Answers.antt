use Rattle.std.proofs.Common.{◌+◌, arith}
use Rattle.patches.proofs.ChunkCells.{chunk_there, among_part, written_part, chunk_among, chunk_corrected}
use Rattle.patches.proofs.column.Column.patch_chunk.Goals as goal

pub write_cells-requires-clause-among : goal.write_cells-requires-clause-among
write_cells-requires-clause-among g c =
    let s = c.args.self.now in
    let places = c.places_of_chunk-places.result in
    let at = c.places_of_chunk-places.ensures in
    let is = c.in_ok-rows.ensures in
    among_part s.indices.numbers c.part-indices.result.numbers places.start places.end c.part-indices.ensures at.order at.within _ _
    (chunk_among s c.args.chunk places.start places.end (chunk_there c.args.chunk s.offset s.rows is.judged.0) at _ _ (omega (arith, is.start)) (omega (arith, is.start, is.end)))

pub returns-clause-cells : goal.returns-clause-cells
returns-clause-cells g c =
    let s = c.args.self.now in
    let places = c.places_of_chunk-places.result in
    let at = c.places_of_chunk-places.ensures in
    let is = c.in_ok-rows.ensures in
    chunk_corrected s c.args.chunk places.start places.end (chunk_there c.args.chunk s.offset s.rows is.judged.0) at _ c.args.cells.now c.write_cells.new.cells (omega (arith, is.start)) (omega (arith, is.start, is.end))
    (written_part s.indices.numbers c.part-indices.result.numbers places.start places.end c.part-indices.ensures at.order at.within (s.offset + c.in_ok-rows.rows.start) s.values.now c.args.cells.now c.write_cells.new.cells s.paired c.write_cells.ensures)
