use Rattle.std.proofs.Common.{ap, ◌∙◌}
use Rattle.search_sorted.specs.Numbers.{got}
use Rattle.patches.specs.Columns.{patches, row_at}
use Rattle.patches.proofs.ColumnSets.{place_next}
use Rattle.patches.proofs.column.sets.ColumnPatchSet.next.Goals as goal

pub returns : goal.returns
returns g c =
    let s = c.args.self.now in
    place_next s c.args.r c.search_index.result c.search_index.ensures c.patched_row.result (c.patched_row.ensures ∙ ap (got (row_at s) (patches s)) c.to_index-place.ensures)
