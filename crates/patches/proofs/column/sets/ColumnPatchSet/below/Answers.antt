use Rattle.std.proofs.Common.{◌∙◌}
use Rattle.patches.proofs.ColumnSets.{place_below}
use Rattle.patches.proofs.column.sets.ColumnPatchSet.below.Goals as goal

pub returns : goal.returns
returns g c = c.to_index.ensures ∙ place_below c.args.self.now c.args.r c.search_index.result c.search_index.ensures
