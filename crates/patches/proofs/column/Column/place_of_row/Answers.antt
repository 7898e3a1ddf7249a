use Rattle.std.proofs.Common.{◌∙◌}
use Rattle.patches.proofs.Rows.{looked_place}
use Rattle.patches.proofs.column.Column.place_of_row.Goals as goal

pub returns : goal.returns
returns g c = c.to_index.ensures ∙ looked_place c.args.self.now c.args.row c.search_index.result c.search_index.ensures c.requires
